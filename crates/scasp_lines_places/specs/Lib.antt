pub mod Places
pub mod Dues
