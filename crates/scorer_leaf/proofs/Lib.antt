-- The laws of the leaves of a scorer tree that the proofs of this crate and of those above it cite.
pub mod Bounds
pub mod Loops
pub mod LeafLaws
pub mod PhraseLaws
pub mod Seeks
pub mod Asked
pub mod Bitmaps
