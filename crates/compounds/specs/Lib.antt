pub mod Compound
