-- The clauses of a Boolean as the code meets them, and the required ones cheapest first.
pub mod Sorting
pub mod ClauseLaws
pub mod Inserting
pub mod ClauseWalk
