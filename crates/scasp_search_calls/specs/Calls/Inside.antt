-- Words for contracts of private functions.
pub mod Alike
pub mod Open
