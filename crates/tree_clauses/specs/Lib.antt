-- The clauses of a Boolean at the records where they stand.
pub mod Clauses
