pub mod Checks
pub mod Meaning
pub mod Tallies
pub mod Views
