pub mod Kepts
mod Outcomes
mod Pushes
