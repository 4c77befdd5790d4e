pub mod Fronts
pub mod Histories
pub mod Joining
pub mod Repeated
