pub mod WorklistLemmas
