-- What the contracts of this crate cite.
pub mod Texts
pub mod Writing
