mod DiskModel
mod Emptying
mod Files
mod Fill
mod Memory
mod Tracking
