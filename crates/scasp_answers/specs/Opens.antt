pub mod View
pub mod Tops
pub mod Closing
