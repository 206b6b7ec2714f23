pub mod Stack
pub mod Filled
