pub mod AskedUses
pub mod UseNotes
pub mod RestNotes
pub mod CycleNotes
