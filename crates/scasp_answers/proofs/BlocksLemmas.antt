pub mod TreeLines
pub mod OtherLines
pub mod BlockLines
