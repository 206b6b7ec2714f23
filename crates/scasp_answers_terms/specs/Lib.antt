pub mod Tokens
pub mod Terms
