-- Lemmas that several proofs of this crate cite.
pub mod PutsLawful
pub mod CellsPut
