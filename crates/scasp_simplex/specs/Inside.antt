-- What inner calls say.
pub mod Certified
pub mod Chains
pub mod Numerators
