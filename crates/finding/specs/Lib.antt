pub mod Part
pub mod Found
