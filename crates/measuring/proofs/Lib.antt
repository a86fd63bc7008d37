pub mod CategoryLaws
pub mod EndLaws
pub mod SizeLaws
pub mod MeasureLaws
pub mod TimeLaws
pub mod Unique
pub mod ShapeLaws
