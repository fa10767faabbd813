pub mod TreeText
pub mod CanonicalTexts
pub mod Renaming
pub mod Spelling
pub mod TreeSets
pub mod TreeOrders
pub mod Writing
