pub mod LineFaults
pub mod NodeFaults
pub mod TableFaults
