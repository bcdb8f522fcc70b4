mod PatternLaws
mod CutLaws
mod LoadLaws
mod OrderLaws
mod FrontLaws
mod RangeLaws
mod MatchLaws
mod LookLaws
