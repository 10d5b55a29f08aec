-- Lemmas that the proofs of this crate cite.
pub mod Columns
pub mod Overlay
pub mod Numeric
pub mod Reading
pub mod Shown
