pub mod Playing
pub mod Planning
pub mod Answers
pub mod Restoring
pub mod Strays
pub mod Keeping
