mod Fetches
mod Places
mod Spots
