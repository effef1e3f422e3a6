pub mod Frames
mod Opens
mod Writes
