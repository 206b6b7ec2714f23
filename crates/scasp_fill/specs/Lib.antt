pub mod Filling
pub mod Finishing
