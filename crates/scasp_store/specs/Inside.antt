pub mod Asking
pub mod Behind
pub mod Failing
pub mod Fixing
pub mod Leaving
pub mod Open
pub mod Reads
