pub mod SpelledLaws
pub mod FlagLaws
pub mod ProfileLaws
pub mod SetLaws
pub mod JudgeLaws
pub mod UsableLaws
pub mod FspecLaws
pub mod Unique
