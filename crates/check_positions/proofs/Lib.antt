-- The positions of postings: differences by their high bit, one posting's positions, and a run's as one pass over all.
pub mod High
pub mod Gaps
pub mod Places
pub mod Parts
pub mod Prefix
pub mod Joined
