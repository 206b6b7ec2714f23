pub mod Clauses
pub mod Queries
