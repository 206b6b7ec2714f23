pub mod Carried
pub mod Examples
pub mod Existence
pub mod MapLevels
pub mod Support
