pub mod Answers
pub mod Bindings
pub mod Index
pub mod Listings
pub mod Tasks
