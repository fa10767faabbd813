pub mod Rows
pub mod MetLemmas
pub mod NoteLemmas
pub mod FileLemmas
pub mod OneEntry
pub mod AnswerLemmas
pub mod LimitLemmas
