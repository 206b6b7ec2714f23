pub mod NumberFacts
pub mod NumberSteps
pub mod NumberTerms
pub mod LeafSteps
pub mod LeafTerms
pub mod Ends
