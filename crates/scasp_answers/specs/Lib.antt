pub mod Blocks
pub mod Parts
pub mod Opens
pub mod States
pub mod Files
