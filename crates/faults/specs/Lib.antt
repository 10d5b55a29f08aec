-- What the contracts of this crate cite.
pub mod Faults
pub mod Refusals
pub mod Words
