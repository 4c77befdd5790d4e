mod BlankLaws
pub mod DigitLaws
pub mod Fails
pub mod LevelLaws
pub mod LevelParts
mod NumberLaws
mod PatternRows
pub mod TestLaws
mod WordLaws
pub mod StatedLaws
