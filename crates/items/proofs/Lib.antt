pub mod PlaceLaws
pub mod CheckLaws
pub mod OneLaws
pub mod Unique
