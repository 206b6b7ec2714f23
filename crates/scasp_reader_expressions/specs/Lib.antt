pub mod Sums
pub mod Values
pub mod Expressions
pub mod Examples
