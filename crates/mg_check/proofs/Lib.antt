mod BesideLaws
mod DocumentLaws
mod IndexLaws
mod RestLaws
mod FoundLaws
mod TallyText
