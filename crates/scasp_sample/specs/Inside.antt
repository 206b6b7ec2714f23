-- Words for contracts of private functions.
pub mod Lists
pub mod Values
