pub mod SuccessorsLemmas
