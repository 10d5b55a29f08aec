-- Lemmas that several proofs of this crate and of those above cite.
pub mod Reading
