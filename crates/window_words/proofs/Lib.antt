-- What the words of a tree that is asked by windows give, and walks along the parts of children: for the crates that
-- ask.
pub mod Laws
pub mod Parts
pub mod Unasked
