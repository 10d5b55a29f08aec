-- Lemmas for the proofs of this crate and of those above it.
pub mod Tops
pub mod SmallPanels
pub mod Spans
pub mod Hits
pub mod Giving
pub mod Listing
