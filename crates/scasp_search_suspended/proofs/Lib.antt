pub mod LookLemmas
pub mod SuspendedLemmas
