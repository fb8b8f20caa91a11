-- The bits of a word: combined and shifted, gone through from the lowest one on, counted below a place.
pub mod Laws
pub mod Lists
pub mod Ranks
