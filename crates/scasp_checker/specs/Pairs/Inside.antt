-- What private functions alone speak of.
pub mod Against
pub mod Clashes
pub mod Groups
