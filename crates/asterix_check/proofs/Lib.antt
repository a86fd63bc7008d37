pub mod WholeLaws
pub mod TurnLaws
pub mod VerdictLaws
