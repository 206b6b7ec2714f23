pub mod Samples
pub mod Tables
