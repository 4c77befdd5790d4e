pub mod Room
pub mod Puts
pub mod Filling
