pub mod Pools
pub mod Schedules
pub mod PoolCourses
pub mod Ones
pub mod Pooled
pub mod PoolViews
