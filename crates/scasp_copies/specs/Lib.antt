pub mod Pieces
pub mod Copies
pub mod Writing
pub mod View
