pub mod AskedRows
pub mod ExactRows
pub mod Examples
pub mod Finding
pub mod Satisfying
pub mod Showing
pub mod Sides
pub mod Verdicts
