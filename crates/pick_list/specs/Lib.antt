-- What the contracts of this crate cite.
pub mod Cursors
pub mod Laying
pub mod Differing
pub mod Showing
pub mod Letters
pub mod WidthLine
