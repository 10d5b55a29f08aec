-- Lemmas on what changes in a picture.
pub mod Rows
pub mod Tops
pub mod Raw
pub mod Outside
pub mod Unwritten
