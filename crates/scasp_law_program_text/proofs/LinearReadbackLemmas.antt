pub mod WholeNumbers
pub mod Rows
pub mod Values
pub mod Steps
pub mod Texts
pub mod Products
pub mod Sides
pub mod LinearItems
