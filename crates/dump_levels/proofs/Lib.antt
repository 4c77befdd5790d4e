pub mod AboveLaws
pub mod CalendarLaws
pub mod DateLaws
pub mod DayLaws
pub mod ElementLaws
pub mod SpanLaws
pub mod TreeLaws
pub mod WithinLaws
