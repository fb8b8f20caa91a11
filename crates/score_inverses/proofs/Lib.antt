-- The table of inverses as it is filled, and what it holds for a query's tree.
pub mod Filling
pub mod OneField
pub mod QueryTables
