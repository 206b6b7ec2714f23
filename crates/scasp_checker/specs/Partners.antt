pub mod Named
pub mod Partners
