pub mod SetLines
pub mod LastElements
