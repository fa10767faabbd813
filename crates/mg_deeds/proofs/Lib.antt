pub mod ListLemmas
pub mod WeightLemmas
pub mod FrontLemmas
pub mod SayingLemmas
pub mod BlockLemmas
pub mod PlaceLemmas
mod Rows
