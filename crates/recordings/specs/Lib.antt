pub mod Feed
pub mod Answers
