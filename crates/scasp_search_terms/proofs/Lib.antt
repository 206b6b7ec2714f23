pub mod FormLemmas
pub mod PairLemmas
pub mod VarLemmas
