pub mod Outcomes
pub mod Commands
pub mod Ends
pub mod Texts
pub mod Outputs
pub mod Inside
pub mod Examples
