-- Lemmas of the proofs.
pub mod AskingLemmas
pub mod BindingLemmas
pub mod KnownLemmas
pub mod UndoLemmas
