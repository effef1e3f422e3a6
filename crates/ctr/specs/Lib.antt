pub mod Gctr
pub mod Ivs
pub mod Keystreams
