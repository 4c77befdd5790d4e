pub mod Expirations
pub mod Words
pub mod Values
pub mod Lines
pub mod NewNames
