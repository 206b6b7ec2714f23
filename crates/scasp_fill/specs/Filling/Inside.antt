-- What private functions alone speak of.
pub mod Clashing
pub mod Findings
pub mod Left
pub mod Pieces
