pub mod CheckLemmas
pub mod SketchLemmas
