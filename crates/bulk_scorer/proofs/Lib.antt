-- The laws of the loops from a scorer tree to the collector.
pub mod LiveMatches
pub mod Sofar
pub mod Held
pub mod Begins
