-- Words for contracts of private functions.
pub mod Continuing
pub mod Events
pub mod Progresses
pub mod Whole
