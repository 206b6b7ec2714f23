-- What private functions alone speak of.
pub mod Classes
pub mod Keys
pub mod Lines
pub mod Places
