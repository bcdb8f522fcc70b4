pub mod CallerLemmas
mod HeadFacts
mod HeldFacts
mod ReadFacts
mod WalkLaws
mod WriterLaws
mod ReaderLaws
mod OrderLaws
mod StoodLaws
mod ReadPages
mod ReadSteps
mod Stays
