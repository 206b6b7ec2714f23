pub mod Agreeing
pub mod Larger
pub mod Places
pub mod Samples
pub mod Renaming
pub mod Keeping
pub mod Files
