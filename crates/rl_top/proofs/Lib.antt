pub mod Naming
pub mod FaultNames
pub mod Laws
pub mod OneOutcome
pub mod OneStatus
pub mod Stopping
pub mod Ending
pub mod SomeOutcome
