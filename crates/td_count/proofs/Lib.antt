pub mod Placing
pub mod Counting
pub mod Sorting
pub mod Labelling
pub mod Forming
pub mod Solving
