-- The laws of the loop over a term at the root, and what the loops over a run or over documents share.
pub mod PostingScores
pub mod Roots
pub mod Runs
pub mod TermRoot
