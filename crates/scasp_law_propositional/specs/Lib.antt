pub mod Propositional
pub mod Runs
