pub mod Printable
pub mod Frags
pub mod Dumps
pub mod Plain
pub mod Bytes
pub mod Forms
pub mod Formats
pub mod Decodes
