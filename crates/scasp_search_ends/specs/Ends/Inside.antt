-- Words for contracts of private functions.
pub mod Apart
pub mod Behind
