mod FirstEntry
mod Shares
