pub mod Compiled
pub mod Taking
pub mod Going
