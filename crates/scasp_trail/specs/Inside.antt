-- What the contracts inside speak of.
pub mod Undoing
