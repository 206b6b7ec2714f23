pub mod Agreeing
pub mod Inside
pub mod Jobs
pub mod Queries
pub mod Runs
pub mod Texts
