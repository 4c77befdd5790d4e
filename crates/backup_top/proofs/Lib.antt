mod TellLaws
mod InputLaws
pub mod ImageLaws
mod Lowering
mod StillLaws
mod TapeCounts
mod ArchiveLaws
mod CourseLaws
pub mod WordLaws
