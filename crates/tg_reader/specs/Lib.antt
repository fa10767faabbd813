pub mod Writable
pub mod Reading
pub mod Naming
