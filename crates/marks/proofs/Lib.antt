pub mod MarkSteps
pub mod NumberLaws
pub mod ChangedLaws
pub mod Unique
pub mod FoundLaws
