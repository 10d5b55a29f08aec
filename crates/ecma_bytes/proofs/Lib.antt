-- Lemmas that several proofs of this crate and of those above cite.
pub mod Setting
pub mod Sizes
pub mod Spelling
pub mod Trips
