pub mod Whole
pub mod Turn
pub mod Verdict
