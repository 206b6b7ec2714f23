pub mod Headed
pub mod Calm
pub mod Examples
