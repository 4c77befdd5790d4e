pub mod Scene
pub mod Reads
pub mod Choice
pub mod Firsts
pub mod Parents
pub mod Append
pub mod Surveys
