pub mod Patterns
pub mod Terms
pub mod Rotations
pub mod Fronts
pub mod Loading
