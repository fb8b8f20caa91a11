-- What the answers of the Range entry say in document 01's numbers.
pub mod Answers
