-- Lemmas that the proofs of this crate and of the terminals cite.
pub mod SentBytes
