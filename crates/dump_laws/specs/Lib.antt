pub mod Rest
pub mod Neighbours
pub mod Made
pub mod Writing
pub mod Running
pub mod Growing
pub mod Keeping
pub mod Beginning
