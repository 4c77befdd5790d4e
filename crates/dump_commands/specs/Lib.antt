pub mod Expanding
pub mod Orders
pub mod Refusals
pub mod Trials
pub mod Answers
pub mod Starts
pub mod Forms
