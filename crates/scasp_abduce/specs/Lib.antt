pub mod Examples
pub mod Inside
pub mod NewNames
pub mod Occurrences
pub mod Translation
