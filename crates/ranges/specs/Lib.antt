-- What the contracts of touching cite.
pub mod Ranges
