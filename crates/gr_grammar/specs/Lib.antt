pub mod Grammars
pub mod Depths
pub mod Words
pub mod Readings
pub mod Balanced
