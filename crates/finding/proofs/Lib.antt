pub mod SeekLaws
pub mod FindLaws
pub mod Unique
