pub mod Within
pub mod Places
pub mod Printable
pub mod Examples
