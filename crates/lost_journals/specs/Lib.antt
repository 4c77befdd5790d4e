pub mod Archives
pub mod Worlds
