pub mod Worlds
pub mod Dumping
