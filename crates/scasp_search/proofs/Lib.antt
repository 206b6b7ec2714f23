pub mod EventLemmas
pub mod StartLemmas
