pub mod Inside
pub mod Pushing
pub mod Tables
