pub mod TermLemmas
pub mod DueLemmas
pub mod AboveLemmas
pub mod ContextLemmas
pub mod NormalLemmas
pub mod RoomLemmas
