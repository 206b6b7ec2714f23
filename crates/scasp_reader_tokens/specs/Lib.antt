pub mod Bytes
pub mod Signs
pub mod Comments
pub mod Quoted
pub mod Numbers
pub mod Directives
pub mod Tokens
pub mod Examples
