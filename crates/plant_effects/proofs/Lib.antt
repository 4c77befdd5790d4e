pub mod Joining
pub mod OutputCalls
pub mod States
pub mod TapeCalls
pub mod TapeLaws
pub mod Wholes
