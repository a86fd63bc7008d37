pub mod LeastLaws
pub mod Unique
