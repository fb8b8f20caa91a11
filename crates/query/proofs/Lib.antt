-- The laws of this crate: those that the functions' proofs cite, and those for the crates above.
pub mod Numbers
pub mod Chains
pub mod Inverse
pub mod Spans
pub mod Steps
pub mod Clauses
pub mod Whole
pub mod Above
pub mod Accepted
pub mod Deeper
pub mod Right
