pub mod Headers
pub mod Limits
pub mod Follows
pub mod Volumes
pub mod Increments
pub mod Chains
pub mod EntryRefs
pub mod Taking
