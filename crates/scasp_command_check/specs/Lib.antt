pub mod Worths
pub mod Texts
pub mod Outputs
pub mod Meaning
pub mod Inside
pub mod Examples
