pub mod Beside
pub mod Underway
pub mod Left
pub mod Groups
pub mod Grown
pub mod Since
