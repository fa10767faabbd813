pub mod Colouring
pub mod Twinning
pub mod Modelling
pub mod Ordering
pub mod Linking
pub mod Interpreting
pub mod Answering
pub mod Likening
