pub mod CrashLog
pub mod Fit
pub mod Format
pub mod Log
pub mod Opened
pub mod State
pub mod Turn
