mod Rows
pub mod Checking
pub mod Staying
pub mod Reading
pub mod Verdicts
pub mod PieceLaws
pub mod Fetched
pub mod JoinedLaws
pub mod KnownOctets
pub mod Numbers
