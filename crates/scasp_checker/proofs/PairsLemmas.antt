pub mod ClashLemmas
pub mod ClashLineLemmas
pub mod FaultLemmas
pub mod GroupLemmas
