-- What the score of one posting of a term asks.
pub mod Postings
