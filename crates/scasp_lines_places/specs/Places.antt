pub mod Against
pub mod Chains
pub mod View
pub mod Substitutions
