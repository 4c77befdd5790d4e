pub mod Joins
pub mod Uses
pub mod Closings
mod Names
mod Slots
mod Searching
mod Beginnings
mod Refusals
mod Passings
mod Settlings
pub mod Streams
pub mod Jobs
pub mod Left
pub mod Events
pub mod Fits
pub mod Turns
pub mod Elsewhere
