-- The laws of `weigh`: the scorer tree means what the query's tree means. The crates above cite them.
pub mod Ready
pub mod Matches
pub mod Order
pub mod Scores
pub mod FullList
pub mod Sizes
pub mod Heights
pub mod Sounds
pub mod Weights
pub mod Tables
pub mod Queries
pub mod Deeper
pub mod Standing
pub mod Phrases
pub mod Measures
pub mod Presence
pub mod Terms
