pub mod Groups
pub mod Begins
pub mod Beginning
pub mod Lines
pub mod Answers
pub mod Settled
pub mod Begun
