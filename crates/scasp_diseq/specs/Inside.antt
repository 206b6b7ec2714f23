-- What private functions alone speak of.
pub mod Chains
pub mod Indexed
pub mod Noting
pub mod Unseen
