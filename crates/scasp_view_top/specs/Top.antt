pub mod Places
pub mod Programs
pub mod Answers
pub mod Outputs
