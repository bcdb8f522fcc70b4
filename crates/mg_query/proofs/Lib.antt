mod TermLaws
mod Steps
mod AheadFew
mod LineSteps
mod HoldLaws
mod WordSteps
