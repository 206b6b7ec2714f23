pub mod ChoiceLemmas
pub mod CountLemmas
pub mod InstanceLemmas
pub mod LimitLemmas
pub mod RowLemmas
pub mod TestLemmas
