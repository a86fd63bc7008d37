pub mod LoopLaws
pub mod HeadLaws
pub mod RecordLaws
pub mod OpenLaws
pub mod InsideLaws
pub mod ExitLaws
pub mod Unique
pub mod HeadUnique
