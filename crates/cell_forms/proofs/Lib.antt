pub mod Lists
pub mod Volumes
pub mod Calls
