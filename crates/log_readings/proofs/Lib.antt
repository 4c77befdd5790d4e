pub mod Answering
pub mod Numbers
pub mod Words
pub mod Paths
pub mod Stated
pub mod Parts
pub mod EachKind
pub mod Whole
