pub mod Ranges
pub mod Tokens
pub mod Steps
pub mod Names
pub mod Numbers
pub mod Terms
