pub mod Telling
pub mod Identified
pub mod Clashing
pub mod Describing
