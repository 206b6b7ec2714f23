pub mod BodiesLemmas
pub mod TextsLemmas
pub mod ProgramsLemmas
