pub mod Examples
pub mod Inside
pub mod Texts
pub mod Trials
