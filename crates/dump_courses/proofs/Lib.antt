pub mod Ahead
pub mod Stopping
pub mod Settling
pub mod CourseLaws
pub mod SettledCourses
pub mod CourseEnds
pub mod Ways
pub mod Steps
