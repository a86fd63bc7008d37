-- What the crate's contracts cite: text on a page. Assumes nothing.
pub mod Page
pub mod Number
pub mod Octet
