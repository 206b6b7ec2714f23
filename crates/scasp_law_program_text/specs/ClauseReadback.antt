pub mod Fitting
pub mod Counting
pub mod Reading
pub mod Parts
pub mod Texts
pub mod Examples
