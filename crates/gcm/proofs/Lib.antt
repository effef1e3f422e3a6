mod Gaps
mod Under
