-- Words for contracts of private functions.
pub mod Innermost
