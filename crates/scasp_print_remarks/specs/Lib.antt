pub mod Inside
pub mod Remarks
pub mod Sameness
pub mod Telling
