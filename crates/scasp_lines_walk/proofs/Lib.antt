pub mod TraversalLemmas
pub mod ShownLemmas
