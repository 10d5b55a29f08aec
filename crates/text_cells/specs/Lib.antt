-- What the contracts of this crate cite.
pub mod TextCells
pub mod Laws
