pub mod Values
pub mod Within
pub mod View
