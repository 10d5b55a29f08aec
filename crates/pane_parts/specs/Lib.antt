-- What the contracts of panes cite.
pub mod Panes
