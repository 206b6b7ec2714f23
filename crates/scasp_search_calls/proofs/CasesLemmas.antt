pub mod LeafLemmas
pub mod ListLemmas
