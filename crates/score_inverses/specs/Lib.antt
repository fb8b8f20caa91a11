-- The fields of a query's records.
pub mod Inverses
