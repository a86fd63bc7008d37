pub mod PlaceLaws
pub mod WalkLaws
pub mod CameLaws
pub mod RowLaws
pub mod ItemLaws
pub mod RecordLaws
pub mod NewLaws
pub mod Unique
