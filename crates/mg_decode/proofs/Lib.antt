mod BoundLaws
mod DocumentLaws
mod StopLaws
mod DecodedLaws
pub mod CallerLemmas
