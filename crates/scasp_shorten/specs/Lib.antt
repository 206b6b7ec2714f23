pub mod Evident
pub mod Following
pub mod Needed
pub mod Shortest
pub mod Told
