mod Searching
mod Places
