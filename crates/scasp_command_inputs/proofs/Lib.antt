pub mod DomainLemmas
pub mod FaultLemmas
pub mod InputLemmas
pub mod ProgramLemmas
pub mod ReportLemmas
