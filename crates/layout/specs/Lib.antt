pub mod Format
pub mod Lengths
pub mod Made
pub mod Spans
