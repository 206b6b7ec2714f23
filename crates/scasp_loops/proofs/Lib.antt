-- Lemmas of the proofs.
pub mod ApartLemmas
pub mod AskLemmas
pub mod EndLemmas
pub mod HintLemmas
pub mod OpenLemmas
pub mod SoundLemmas
pub mod StateLemmas
pub mod TopLemmas
pub mod ZipLemmas
