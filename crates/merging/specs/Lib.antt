pub mod Heads
pub mod Run
pub mod Step
pub mod Many
