-- What the crate's contracts cite. Assumes nothing.
pub mod Filled
