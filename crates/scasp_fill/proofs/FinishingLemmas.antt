pub mod FinishLemmas
