mod ReadLaws
mod LoadLaws
mod TextLaws
mod NextLaws
pub mod CallerLemmas
mod KeptLaws
