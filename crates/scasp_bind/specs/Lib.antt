pub mod Binds
pub mod Depths
pub mod Examples
pub mod Inside
pub mod Kept
pub mod Resolving
