-- The laws of the scorer tree that the proofs of this crate and of those above it cite.
pub mod Firsts
pub mod Children
pub mod Loops
pub mod Leads
pub mod Nodes
pub mod Asked
pub mod Terms
pub mod Example
