pub mod Comings
pub mod Tallies
pub mod Replies
pub mod Texts
pub mod Desks
pub mod Inside
pub mod Examples
