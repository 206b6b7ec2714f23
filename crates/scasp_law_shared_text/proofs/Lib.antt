pub mod Items
pub mod Blocks
pub mod Lengths
pub mod NoTrees
pub mod Printed
