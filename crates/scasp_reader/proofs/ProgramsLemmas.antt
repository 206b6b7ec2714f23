pub mod Keeping
pub mod TermKeeping
pub mod SumKeeping
pub mod ValueKeeping
pub mod ItemKeeping
pub mod AbducibleKeeping
pub mod ClauseKeeping
pub mod DenialLemmas
