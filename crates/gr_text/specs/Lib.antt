pub mod Limits
pub mod Places
pub mod Cursors
pub mod Words
pub mod Decimals
