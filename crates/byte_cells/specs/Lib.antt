-- What the contracts of this crate cite.
pub mod ByteCells
pub mod Laws
