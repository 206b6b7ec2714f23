pub mod AgainstLemmas
pub mod PartLemmas
pub mod CoverLemmas
pub mod ReplacedLemmas
