pub mod PlaceLemmas
pub mod CursorLemmas
pub mod DecimalLemmas
pub mod WordLemmas
