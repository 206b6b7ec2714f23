pub mod StepsLemmas
pub mod WrittenLemmas
