pub mod Finishes
pub mod Right
