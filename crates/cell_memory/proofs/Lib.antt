-- Lemmas for the proofs of this crate.
pub mod Filling
pub mod Shifting
pub mod Texting
