pub mod Tables
pub mod Calls
pub mod Alone
pub mod Numbers
pub mod Laws
