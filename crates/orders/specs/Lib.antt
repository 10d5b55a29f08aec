-- What the contracts of this crate cite.
pub mod Orders
pub mod Kept
