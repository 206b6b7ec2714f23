-- What private functions alone speak of.
pub mod Kept
pub mod Taken
