pub mod Grammars
pub mod Firsts
pub mod Complaints
pub mod Inputs
pub mod Tables
pub mod Reading
pub mod Answers
