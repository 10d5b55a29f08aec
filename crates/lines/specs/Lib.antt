-- What the contracts of this crate and of the terminals cite.
pub mod Sending
