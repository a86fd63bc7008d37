pub mod PutLaws
pub mod LayLaws
pub mod Unique
