pub mod Pieces
pub mod Lists
pub mod Values
pub mod Blocks
pub mod Bodies
pub mod Items
pub mod Printing
pub mod Writing
