pub mod Analysed
pub mod Inside
pub mod Rests
