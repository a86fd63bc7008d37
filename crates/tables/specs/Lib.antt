pub mod Places
pub mod Tables
pub mod Tests
pub mod FieldRules
pub mod Profiles
