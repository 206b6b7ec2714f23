pub mod Endings
pub mod Writable
pub mod Texts
pub mod Examples
