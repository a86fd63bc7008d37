-- The laws that the proofs of this crate and of its callers cite.
pub mod PageLaws
pub mod NumberLaws
pub mod OctetLaws
pub mod Unique
