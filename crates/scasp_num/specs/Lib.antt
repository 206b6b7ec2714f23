pub mod Gcd
pub mod Number
pub mod Arithmetic
pub mod Linear
pub mod SameRow
pub mod Sums
pub mod Values
