pub mod PreorderLemmas
pub mod TreeNetworkLemmas
pub mod FlatTreeLemmas
pub mod SameForms
