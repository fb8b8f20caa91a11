-- The exports' contracts are the clauses of `border`'s functions.
pub mod Contracts
