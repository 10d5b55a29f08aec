-- What contracts over areas cite.
pub mod Addresses
pub mod Memories
