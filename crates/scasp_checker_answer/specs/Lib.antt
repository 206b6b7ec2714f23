pub mod Judged
pub mod NameClashes
