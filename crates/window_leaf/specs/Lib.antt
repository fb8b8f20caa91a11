-- What the contracts of this crate name: what a node is asked and answers of a window, and the parts of that for runs
-- and phrases.
pub mod Asks
pub mod Runs
pub mod Phrases
