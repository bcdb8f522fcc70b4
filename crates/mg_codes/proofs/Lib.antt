pub mod CallerLemmas
mod ReadLaws
mod ShortWalk
mod UnaryWalk
mod TwoParts
mod PartLaws
mod Instances
mod Written
mod PutLaws
mod HeldCodes
mod FirstCodes
