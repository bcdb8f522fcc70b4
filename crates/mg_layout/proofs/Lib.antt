mod CheckLaws
mod HeadFacts
mod LoadFacts
mod ContentLaws
pub mod CallerLemmas
