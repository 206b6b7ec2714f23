pub mod AssumingLemmas
