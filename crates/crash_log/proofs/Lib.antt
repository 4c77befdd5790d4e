pub mod Changing
mod Closing
mod Committing
pub mod Fitting
mod Formatting
mod Front
mod Naming
mod Numbers
mod OpenedLemmas
mod Opening
pub mod Reading
mod Slots
mod Spans
mod Stale
pub mod Telling
mod WritingApart
