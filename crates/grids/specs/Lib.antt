-- What the contracts of this crate cite.
pub mod Putting
pub mod Grids
pub mod CellsPut
pub mod GridViews
pub mod PutLaws
