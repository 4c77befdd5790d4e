pub mod Indexed
pub mod Kept
pub mod Relistings
pub mod Walks
pub mod Holders
pub mod Latest
