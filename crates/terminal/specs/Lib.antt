-- What the contracts of every terminal cite.
pub mod Meanings
pub mod Operations
pub mod Acceptance
pub mod Performing
pub mod Devices
pub mod Sizes
