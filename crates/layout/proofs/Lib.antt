mod Covering
pub mod Laws
