pub mod Domains
pub mod Examples
pub mod Inside
pub mod Meaning
pub mod Names
pub mod View
