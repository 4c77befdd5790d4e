pub mod Held
pub mod Ready
pub mod OnLines
pub mod Since
