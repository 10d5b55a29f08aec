-- Lemmas on ranges that proofs of touching cite.
pub mod Hulls
pub mod Touches
