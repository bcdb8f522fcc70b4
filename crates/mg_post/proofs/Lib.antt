mod EntryBytes
mod WriterLaws
mod ReadLaws
mod AheadLaws
mod FindLaws
mod ForwardLaws
mod PagesOnceLaws
mod EnterLaws
mod CursorLaws
mod StandLaws
mod Totals
mod SoundLaws
mod ShownLaws
mod StepLaws
mod LifeLaws
mod TermLaws
mod WholeListLaws
mod WalkPages
mod ListReadingLaws
pub mod CallerLemmas
pub mod ListHeads
