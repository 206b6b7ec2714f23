pub mod Faults
pub mod SameSign
pub mod Steps
pub mod Names
pub mod Constants
pub mod Terms
pub mod Examples
