pub mod Forms
pub mod NewNames
