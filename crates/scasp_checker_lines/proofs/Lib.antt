pub mod LineFaultsLemmas
pub mod NodeFaultsLemmas
pub mod TableFaultsLemmas
