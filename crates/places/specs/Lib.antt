-- What contracts over spots, sizes and rectangles cite.
pub mod Places
