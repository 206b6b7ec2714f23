pub mod Answers
pub mod Finding
pub mod Parts
pub mod Tables
pub mod Variables
