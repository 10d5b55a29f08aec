-- What the contracts of devices cite.
pub mod Shown
pub mod Devices
