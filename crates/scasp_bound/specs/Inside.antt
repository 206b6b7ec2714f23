-- What private functions alone speak of.
pub mod Falls
pub mod Gaps
pub mod Pairs
pub mod Places
pub mod Reading
