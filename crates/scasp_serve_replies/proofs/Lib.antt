pub mod GoingLemmas
pub mod ReplyLemmas
