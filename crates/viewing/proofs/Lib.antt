pub mod Exits
pub mod FieldLaws
pub mod ListLaws
pub mod TotalLaws
pub mod SheetSteps
pub mod Unique
