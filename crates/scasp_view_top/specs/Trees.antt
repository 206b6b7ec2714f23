pub mod Settings
pub mod Labels
pub mod Rows
pub mod Pages
pub mod Trees
pub mod Examples
pub mod Inside
