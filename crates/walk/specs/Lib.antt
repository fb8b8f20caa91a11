-- What the contracts of the walk name.
pub mod Walks
