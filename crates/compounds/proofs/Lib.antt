pub mod PrimaryLaws
pub mod SubfieldLaws
pub mod FieldLaws
pub mod PresenceLaws
pub mod ItemLaws
pub mod SizeLaws
pub mod Unique
