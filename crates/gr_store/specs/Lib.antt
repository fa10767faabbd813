pub mod Contents
pub mod Rings
pub mod Index
pub mod Roots
pub mod Solution
pub mod State
pub mod Trail
