-- The scorer tree, how a query's tree becomes one, and the words that hold it.
pub mod ScorerTree
pub mod Weigh
pub mod State
pub mod Held
pub mod Sound
pub mod Measured
