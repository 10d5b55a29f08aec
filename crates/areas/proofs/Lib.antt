-- Lemmas on areas and memory that proofs of the crates above cite.
pub mod AddressLaws
pub mod MemoryLaws
pub mod AreaEnds
