pub mod Abducibles
pub mod Clauses
pub mod Texts
pub mod Examples
