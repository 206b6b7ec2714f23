pub mod Agreeing
pub mod Ends
pub mod Examples
pub mod Outputs
pub mod Texts
