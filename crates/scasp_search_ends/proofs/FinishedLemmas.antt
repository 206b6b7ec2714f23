pub mod BuiltLemmas
pub mod CountLemmas
pub mod FirstLemmas
pub mod MetLemmas
