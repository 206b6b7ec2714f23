pub mod Examples
pub mod Finished
pub mod Problems
pub mod Propositional
pub mod Trees
