pub mod Abducibles
pub mod Terms
pub mod Items
pub mod Programs
pub mod Pieces
