mod Rows
pub mod OrderLemmas
pub mod WalkLemmas
pub mod RouteLemmas
pub mod ListingLemmas
mod FiniteLemmas
pub mod ErrandLemmas
pub mod StepLemmas
pub mod WayLemmas
pub mod ExportLemmas
pub mod WalkerLemmas
