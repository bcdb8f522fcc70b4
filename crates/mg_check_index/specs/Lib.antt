pub mod Counting
pub mod Packing
pub mod Listing
pub mod Anew
pub mod InStore
pub mod InPair
pub mod PairCalls
