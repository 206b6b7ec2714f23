pub mod RunChecked
pub mod Examples
