mod Turns
mod FileTurns
mod Prefixes
