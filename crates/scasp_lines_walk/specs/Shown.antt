pub mod Standings
pub mod TableView
pub mod Inside
