pub mod Loads
pub mod Carrying
pub mod CanonicalTrees
pub mod ModelTrees
pub mod ModelEntries
pub mod Reading
