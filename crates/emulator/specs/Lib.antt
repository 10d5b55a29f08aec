-- What the contracts of this crate cite.
pub mod Screens
pub mod Emulators
