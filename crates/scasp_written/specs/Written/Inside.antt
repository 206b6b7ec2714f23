-- Words for contracts of private functions.
pub mod Goals
pub mod Heights
pub mod Reached
pub mod Stacks
