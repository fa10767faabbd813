pub mod Descriptions
pub mod Conditions
pub mod Likeness
