pub mod Said
pub mod Meanings
pub mod Ledgers
pub mod Numbered
pub mod State
pub mod Classes
