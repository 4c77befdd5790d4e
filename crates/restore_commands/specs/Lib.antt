pub mod Bases
pub mod Choices
pub mod Answers
pub mod Leaving
pub mod Steps
pub mod Batches
