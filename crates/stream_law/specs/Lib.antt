pub mod Deeds
pub mod Files
