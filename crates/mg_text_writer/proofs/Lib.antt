pub mod CallerLemmas
mod WriterLaws
mod WriterStays
mod DocumentLaws
mod ByteLaws
