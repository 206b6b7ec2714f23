-- Lemmas of the proofs.
pub mod UndoLemmas
