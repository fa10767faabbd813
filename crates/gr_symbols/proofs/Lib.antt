pub mod NumberLemmas
pub mod Lookups
pub mod FirstTexts
