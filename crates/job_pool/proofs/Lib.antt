pub mod NextTurns
pub mod CourseLaws
pub mod Ones
pub mod Turning
pub mod Pooling
pub mod PoolWays
