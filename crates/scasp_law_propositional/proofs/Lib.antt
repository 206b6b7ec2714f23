pub mod PropositionalLemmas
pub mod RunsLemmas
