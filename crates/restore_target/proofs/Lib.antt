pub mod Fronts
pub mod TargetLaws
