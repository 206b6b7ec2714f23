pub mod Places
pub mod Options
pub mod Asked
pub mod Examples
