pub mod Refusals
pub mod Outcomes
pub mod Stops
pub mod Compiling
