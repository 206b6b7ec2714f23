pub mod Atoms
pub mod Items
pub mod Bodies
pub mod Examples
