pub mod Back
pub mod Xors
