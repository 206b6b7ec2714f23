pub mod Tables
pub mod Tokens
pub mod TermTokens
pub mod Steps
pub mod Leaves
pub mod Terms
