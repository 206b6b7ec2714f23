pub mod Bound
pub mod Examples
pub mod Fixed
pub mod Index
pub mod Parts
pub mod Questions
