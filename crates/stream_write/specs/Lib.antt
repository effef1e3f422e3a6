pub mod Blocks
pub mod Calls
pub mod Makes
pub mod Runs
pub mod Sends
pub mod Writers
