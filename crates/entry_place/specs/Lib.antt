-- What the answers of the Place entry say in document 01's numbers, and what its work and the search for a leaf's
-- posting ask.
pub mod Answers
pub mod Runs
