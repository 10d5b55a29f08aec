-- What the contracts of this crate cite.
pub mod Places
pub mod Decks
pub mod Pictures
