pub mod RecordLaws
pub mod ShapeLaws
pub mod Unique
