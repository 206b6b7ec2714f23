-- Words of private functions alone.
pub mod Covers
