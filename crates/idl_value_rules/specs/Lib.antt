pub mod RestBreaches
pub mod Cycles
pub mod SeenCounts
pub mod AcceptedLabels
pub mod SeenMarks
pub mod OwnMarks
pub mod Counted
pub mod TypeProperties
