pub mod Examples
pub mod Lines
pub mod Meaning
pub mod Order
