-- How a certificate is written: the text of a block, its lines and what stands on them.
pub mod Block
pub mod Constraints
pub mod Hints
pub mod Names
pub mod Separators
pub mod Terms
pub mod Trees
