pub mod Styles
pub mod Fitting
pub mod Counting
pub mod Reading
pub mod Examples
