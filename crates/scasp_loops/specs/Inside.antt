-- What private functions alone speak of.
pub mod Asked
pub mod Changed
pub mod Hinted
pub mod Kept
pub mod Open
pub mod Topped
pub mod Zipped
