pub mod ItemLaws
pub mod Unique
