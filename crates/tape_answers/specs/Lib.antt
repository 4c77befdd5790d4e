pub mod FieldTests
pub mod Reading
pub mod Scanning
pub mod GoingOn
pub mod Assembling
pub mod Slots
