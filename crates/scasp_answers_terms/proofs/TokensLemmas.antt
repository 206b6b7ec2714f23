pub mod PastLemmas
pub mod SignLemmas
pub mod TextLemmas
pub mod TokenLemmas
