pub mod Inside
pub mod States
