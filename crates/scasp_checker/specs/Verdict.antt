pub mod DefaultOverVariable
pub mod Right
pub mod Verdicts
