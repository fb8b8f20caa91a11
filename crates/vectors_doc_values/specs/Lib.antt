-- What the functions over columns ask.
pub mod Columns
