-- Laws of the part of a terminal that a pane is.
pub mod GridParts
pub mod Operating
