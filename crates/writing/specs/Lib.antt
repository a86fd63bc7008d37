pub mod Write
pub mod Item
pub mod Compound
