pub mod Trees
pub mod Positions
pub mod TreeViews
pub mod TreeNetworks
pub mod FlatTrees
pub mod Forms
