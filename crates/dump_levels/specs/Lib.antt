pub mod Elements
pub mod Trees
pub mod Calendar
pub mod Dates
pub mod Expiries
pub mod Spans
