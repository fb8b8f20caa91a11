-- The laws of the first pass: the tally of a Boolean's clauses, and the documents of the ranges.
pub mod Arrays
pub mod ClausesLeft
pub mod Tallies
pub mod Listing
pub mod Mapped
pub mod Occurrences
