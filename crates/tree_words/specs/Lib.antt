-- What the words of a scorer are when they are written, and what the second pass goes by.
pub mod Words
pub mod Placed
pub mod Prepared
