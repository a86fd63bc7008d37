pub mod ChangeSteps
pub mod WriteSteps
pub mod Unique
