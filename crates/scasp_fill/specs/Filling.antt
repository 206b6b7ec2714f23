pub mod Hinted
pub mod Filled
pub mod Inside
