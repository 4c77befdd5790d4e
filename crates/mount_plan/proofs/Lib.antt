pub mod MountLaws
pub mod NeedLaws
pub mod PassLaws
pub mod CourseLaws
