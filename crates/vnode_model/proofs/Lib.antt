pub mod FollowLaws
pub mod IncrementLaws
pub mod TakingLaws
pub mod ApplyLaws
pub mod ChainLaws
