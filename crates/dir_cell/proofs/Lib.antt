pub mod CatalogLaws
pub mod RoomLaws
pub mod ChangeLaws
