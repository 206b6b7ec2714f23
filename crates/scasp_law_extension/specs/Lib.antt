pub mod Above
pub mod Examples
