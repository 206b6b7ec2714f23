pub mod Judgements
pub mod View
pub mod Blocks
pub mod Meaning
pub mod Examples
