pub mod Examples
pub mod Good
pub mod Premises
pub mod Carriers
pub mod Kept
pub mod OwnRows
