pub mod Mounts
pub mod Passes
pub mod Tellings
pub mod Outcomes
pub mod Courses
