pub mod DueView
pub mod Seen
pub mod Ends
pub mod Above
pub mod Wholes
pub mod Pending
pub mod PendingView
