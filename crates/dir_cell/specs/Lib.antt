pub mod Calls
pub mod Catalogs
pub mod Dots
pub mod Judging
pub mod Props
pub mod Refusals
pub mod Refused
pub mod Shown
