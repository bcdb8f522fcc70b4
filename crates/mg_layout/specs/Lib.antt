pub mod HeadAnswers
pub mod Sizes
pub mod Infos
pub mod Stands
pub mod Compares
pub mod Contents
