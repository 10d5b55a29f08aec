-- What the contracts of this crate and of the terminal above cite.
pub mod Bytes
pub mod RoundTrip
pub mod Codes
