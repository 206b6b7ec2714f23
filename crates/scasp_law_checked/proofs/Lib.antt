pub mod Checking
pub mod NumberRanges
pub mod Samples
