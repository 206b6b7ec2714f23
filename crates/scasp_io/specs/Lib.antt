pub mod Bytes
pub mod Calls
pub mod Counts
pub mod Inside
pub mod Lookup
pub mod MemoryFiles
pub mod MemorySink
pub mod Taken
