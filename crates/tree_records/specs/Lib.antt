-- What the contracts of this crate cite beyond the layout of the words.
pub mod Records
pub mod Standing
