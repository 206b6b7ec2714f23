pub mod ChainLemmas
pub mod DoubledLemmas
pub mod PointLemmas
pub mod VerdictLemmas
