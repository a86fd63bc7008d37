pub mod Measure
pub mod Shape
