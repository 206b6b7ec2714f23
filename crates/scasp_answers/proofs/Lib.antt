pub mod BlocksLemmas
pub mod PartsLemmas
pub mod OpensLemmas
pub mod StatesLemmas
pub mod FilesLemmas
