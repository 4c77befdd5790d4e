pub mod Moments
pub mod Telling
