pub mod Readers
pub mod Texts
pub mod Records
pub mod Readings
