pub mod Checked
pub mod Contexts
pub mod Rules
