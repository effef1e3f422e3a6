pub mod Blocks
pub mod Fetches
pub mod Makings
pub mod Ranges
pub mod Readers
pub mod Singles
