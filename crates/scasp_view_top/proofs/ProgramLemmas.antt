pub mod LineLemmas
pub mod BareLemmas
