pub mod ConfigLaws
pub mod CellLaws
pub mod PortLaws
