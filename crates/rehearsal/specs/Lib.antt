pub mod Names
pub mod Commands
pub mod Playing
pub mod Sessions
pub mod Counts
pub mod Copies
pub mod Lines
pub mod Rehearsed
