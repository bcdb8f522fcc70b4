pub mod CallerLemmas
mod ReadingLaws
mod PendingLaws
mod CommandLaws
mod ServedLaws
mod PrintedLaws
