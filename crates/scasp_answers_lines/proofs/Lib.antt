pub mod RowsLemmas
pub mod FormsLemmas
