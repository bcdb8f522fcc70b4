mod LookLaws
mod UnreadLaws
mod UseLaws
mod CodeLaws
mod WordLaws
mod TermNumbers
mod TallyLaws
mod WeightSums
mod CountedTerms
pub mod CallerLemmas
mod TermWords
