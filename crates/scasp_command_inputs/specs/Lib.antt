pub mod Codes
pub mod Domains
pub mod Examples
pub mod Halts
pub mod Inputs
pub mod Reports
pub mod Texts
