pub mod AddLaws
pub mod SetLaws
pub mod AddedLaws
pub mod Unique
