-- Lemmas that the proofs of every terminal can cite.
pub mod Devices
pub mod Going
