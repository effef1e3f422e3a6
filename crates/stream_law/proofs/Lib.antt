mod Cuts
mod Keeps
pub mod Rows
mod Shuts
