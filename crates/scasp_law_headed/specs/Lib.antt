pub mod Examples
pub mod Finished
pub mod Good
pub mod Reading
pub mod Wide
