pub mod StepLaws
pub mod TotalLaws
pub mod TextsLaws
pub mod ShowLaws
pub mod HitLaws
pub mod FindLaws
pub mod KnownLaws
pub mod AllowedLaws
pub mod WalkLaws
pub mod RankedLaws
pub mod ReplyLaws
pub mod TermLaws
pub mod CallLaws
pub mod DecidedLaws
pub mod DocStandsLaws
pub mod SetLaws
pub mod StopLaws
pub mod SessionLaws
pub mod OpenLaws
pub mod ServedLaws
pub mod PhraseWalkLaws
pub mod PhraseReplyLaws
mod PhraseLineLaws
pub mod WildReplyLaws
pub mod WildSetLaws
pub mod WildStopLaws
mod WildTermsLaws
pub mod MarkLaws
pub mod WildListLaws
pub mod WildTextLaws
pub mod WildPageLaws
mod PrintedOverLaws
mod QueriedLaws
mod PhrasedLaws
mod MatchedLaws
mod LineLaws
pub mod PhraseExamples
pub mod AllowedExamples
pub mod PhraseTextsLaws
