pub mod Ahead
pub mod Scenes
pub mod Courses
pub mod Settled
pub mod Running
