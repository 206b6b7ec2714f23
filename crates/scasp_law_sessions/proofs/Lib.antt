pub mod SearchLemmas
