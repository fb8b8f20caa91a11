-- The kinds of a node's words, and what is read of them.
pub mod Kinds
pub mod Words
