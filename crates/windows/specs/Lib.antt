-- What the contracts of this crate cite.
pub mod TextColumns
pub mod Tables
pub mod Refusals
pub mod Cells
