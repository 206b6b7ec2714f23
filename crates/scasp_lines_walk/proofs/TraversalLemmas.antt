pub mod CursorLemmas
pub mod PendingLemmas
pub mod StackLemmas
pub mod GoingLemmas
