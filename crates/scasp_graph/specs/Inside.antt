-- What private functions alone speak of.
pub mod Components
pub mod Graphs
pub mod Growing
pub mod Levels
pub mod Orders
pub mod Partitions
pub mod Places
pub mod Searching
