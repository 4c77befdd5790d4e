pub mod Lines
pub mod Items
pub mod Scripts
pub mod Watching
pub mod Held
pub mod Running
pub mod Ended
