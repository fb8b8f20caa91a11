-- Runs of postings packed into words are read back, each law after those that it uses.
pub mod Joined
pub mod Longer
pub mod Back
