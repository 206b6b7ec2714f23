pub mod Raised
pub mod ByLines
