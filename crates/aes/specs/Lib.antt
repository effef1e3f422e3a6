pub mod Field
pub mod Words
pub mod Cipher
pub mod KeyExpansion
pub mod Aes
pub mod Blocks
pub mod Schedules
