pub mod AboveLemmas
pub mod ApartLemmas
pub mod LineLemmas
