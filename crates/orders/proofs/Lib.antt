-- Lemmas on orders.
pub mod Rotations
pub mod OrderLaws
