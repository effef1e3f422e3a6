mod Products
mod Blocks
pub mod Joins
