pub mod BagLemmas
pub mod NetworkLemmas
pub mod AdditionLemmas
pub mod ViewLemmas
pub mod Agreeing
