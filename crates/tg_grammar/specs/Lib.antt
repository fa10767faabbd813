pub mod Marks
pub mod NamedMarks
pub mod Spots
pub mod Shapes
pub mod Facts
pub mod Grammars
pub mod Surveys
pub mod Places
