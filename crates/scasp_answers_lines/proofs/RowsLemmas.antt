pub mod SumLemmas
pub mod SeparatedLemmas
pub mod RowLemmas
