-- The runs of the leaves: their records in one pass, where a run lies, and leaves from a number on.
pub mod Records
pub mod Runs
pub mod LeafRead
pub mod From
