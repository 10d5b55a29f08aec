-- Lemmas for the proofs of this crate and of those above it.
pub mod TextWidths
pub mod Scrolling
pub mod Drawn
