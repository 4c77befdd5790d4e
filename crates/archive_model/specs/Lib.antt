pub mod Holding
pub mod Plays
pub mod Archives
pub mod Clones
pub mod Turns
pub mod Settled
pub mod Sources
