pub mod Gcm
pub mod Tags
pub mod Laws
pub mod Macs
