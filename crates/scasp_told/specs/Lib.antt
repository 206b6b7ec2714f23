pub mod Inside
pub mod Pieces
