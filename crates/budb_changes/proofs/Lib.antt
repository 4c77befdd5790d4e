pub mod Names
pub mod Layouts
pub mod ChangeKinds
pub mod Logs
