pub mod Fronts
pub mod QuotedNames
pub mod NameReading
pub mod NumberReading
pub mod VariableReading
pub mod SignReading
pub mod FoundTokens
