pub mod Forms
pub mod Journals
pub mod Begins
