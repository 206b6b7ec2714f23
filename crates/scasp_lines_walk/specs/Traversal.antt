pub mod Going
pub mod Pending
pub mod View
