pub mod Grammars
pub mod Complaints
pub mod Entries
pub mod Reading
pub mod Answers
