-- What the contracts of this crate name: a leaf's cursor in its run, the terms of a phrase, and what is lent with the
-- words of a tree.
pub mod Search
pub mod Phrases
pub mod Calls
pub mod Buffers
