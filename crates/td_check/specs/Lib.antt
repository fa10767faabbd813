pub mod Sets
pub mod ModelTrees
pub mod Models
pub mod Rooms
pub mod Places
pub mod Shifts
pub mod Sides
