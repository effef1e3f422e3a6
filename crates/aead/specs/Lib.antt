pub mod Counters
pub mod Draws
pub mod Keys
pub mod Recorded
pub mod Seals
pub mod Counts
pub mod Records
