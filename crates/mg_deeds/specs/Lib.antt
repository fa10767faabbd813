pub mod Blocks
pub mod Deeds
pub mod Weights
pub mod Fronts
pub mod Sayings
pub mod Kids
pub mod Places
