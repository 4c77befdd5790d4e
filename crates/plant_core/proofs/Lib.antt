pub mod Calls
pub mod Keeping
pub mod Leading
pub mod TapeLists
