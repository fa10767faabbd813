pub mod Solutions
pub mod Searches
pub mod Ties
pub mod Candidates
pub mod Choices
pub mod Tasks
pub mod Turns
