-- What the contracts of this crate say beside the definitions below.
pub mod Measures
pub mod NextClause
pub mod Tallied
