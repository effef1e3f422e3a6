mod Exacts
mod Lawful
mod Steps
