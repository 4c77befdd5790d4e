mod Choices
mod StreamBytes
mod TapeNames
pub mod EventForms
pub mod JournalLaws
pub mod SlotForms
mod BaseNames
mod AppendLaws
pub mod BeginForms
