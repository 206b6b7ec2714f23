pub mod ClashWalkLemmas
pub mod Judging
pub mod KnownLemmas
pub mod MapLemmas
pub mod NameClashLemmas
