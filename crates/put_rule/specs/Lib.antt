-- What the contracts of grids cite of the put rule.
pub mod Putting
pub mod Grids
