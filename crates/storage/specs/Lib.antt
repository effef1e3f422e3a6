pub mod Answers
pub mod Copies
pub mod Limits
pub mod Memories
pub mod Ports
pub mod Windows
pub mod Writes
