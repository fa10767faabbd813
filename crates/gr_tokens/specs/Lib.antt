pub mod Tokens
pub mod Answers
pub mod Fronts
pub mod Spans
