pub mod Cases
pub mod Foresight
pub mod Leaves
pub mod Tests
