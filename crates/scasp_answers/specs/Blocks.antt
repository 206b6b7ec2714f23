pub mod Blocks
pub mod Open
pub mod States
pub mod Files
pub mod Examples
