-- What the contracts of this crate name: the words of a tree that are lent with the index.
pub mod Calls
