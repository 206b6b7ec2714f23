pub mod Taken
pub mod Times
