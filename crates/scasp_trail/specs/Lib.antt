pub mod Inside
pub mod Past
