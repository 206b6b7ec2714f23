pub mod Endings
pub mod SignTexts
