pub mod Instances
pub mod Examples
