-- What the answers of the Pick entry say in document 01's numbers.
pub mod Answers
