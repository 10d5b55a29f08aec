-- What the contracts of this crate cite.
pub mod Attributes
pub mod Widths
pub mod Kinds
pub mod Rows
