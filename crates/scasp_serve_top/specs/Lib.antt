pub mod Statuses
pub mod Inputs
pub mod Served
pub mod Outputs
pub mod Inside
