pub mod SinceLaws
pub mod CutLaws
pub mod JoinLaws
pub mod GivenLaws
pub mod ArchiveLaws
