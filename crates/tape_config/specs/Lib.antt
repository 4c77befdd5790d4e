pub mod Numbers
pub mod Words
pub mod Lines
pub mod Ports
pub mod Configs
pub mod Adds
