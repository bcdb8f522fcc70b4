mod LexLaws
mod InfoLaws
mod StoodLaws
pub mod CallerLemmas
