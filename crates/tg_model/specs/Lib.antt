pub mod DenseTrees
pub mod LexicalTrees
pub mod Instances
pub mod Selections
