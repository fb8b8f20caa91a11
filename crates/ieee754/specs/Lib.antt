-- The definitions that the contracts of ieee754 and of the crates above it cite.
pub mod TotalOrder
pub mod Nonneg
