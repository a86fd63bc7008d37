pub mod KindLaws
pub mod TableLaws
pub mod MatchLaws
pub mod RuleLaws
pub mod ProfileLaws
pub mod Unique
