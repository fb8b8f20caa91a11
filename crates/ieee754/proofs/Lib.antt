-- The laws that the crates above cite. `NarrowSteps` is for the proofs of this crate's own functions.
pub mod TotalOrder
pub mod Nonneg
pub mod Patterns
pub mod Ranges
pub mod Narrowing
pub mod NarrowSteps
pub mod InSteps
pub mod PatternSteps
pub mod Successor
pub mod Bounds
pub mod Sums
