pub mod Database
pub mod FoldLaws
pub mod Checkpoints
pub mod Lookups
pub mod Chains
