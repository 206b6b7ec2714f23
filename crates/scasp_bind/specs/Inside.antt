-- What private functions alone speak of.
pub mod Heads
pub mod Jobs
pub mod Lowering
pub mod Notes
pub mod Soundness
pub mod Undoing
