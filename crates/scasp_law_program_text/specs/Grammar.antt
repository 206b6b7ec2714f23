pub mod Trees
pub mod Spelling
pub mod Known
pub mod Terms
pub mod Expressions
pub mod Bodies
pub mod Programs
pub mod Examples
