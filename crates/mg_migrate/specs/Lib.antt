pub mod Copying
pub mod Writing
pub mod Sizes
pub mod Migrating
pub mod MadeFrom
pub mod MadeAnew
