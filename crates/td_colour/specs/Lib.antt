pub mod Relations
pub mod Colours
pub mod Models
