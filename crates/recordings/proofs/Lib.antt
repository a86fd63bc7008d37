pub mod CountLaws
pub mod KeptLaws
pub mod FeedLaws
pub mod Unique
