pub mod Bytes
pub mod Forms
pub mod Texts
pub mod Formats
