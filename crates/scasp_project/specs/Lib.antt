pub mod Choices
pub mod Dropped
pub mod Inside
pub mod LeftRows
pub mod Meaning
pub mod Projection
