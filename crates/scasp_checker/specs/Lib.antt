pub mod Walk
pub mod Partners
pub mod Pairs
pub mod Verdict
