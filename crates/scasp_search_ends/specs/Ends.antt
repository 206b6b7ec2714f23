pub mod Inside
pub mod Ends
