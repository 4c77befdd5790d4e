pub mod ItemLaws
pub mod TextLaws
