pub mod Folds
mod FoldRows
pub mod Finds
pub mod ChainLaws
pub mod LatestLaws
pub mod Behind
pub mod SetKeeps
pub mod LevelKeeps
pub mod FoldKeeps
pub mod FoldLaws
pub mod CheckpointLaws
pub mod PatternForms
pub mod SetSteps
