-- What the contracts of this crate name beside the definitions of `meaning`,
-- and what an accepted index is known to hold.
pub mod Slices
pub mod Ranges
pub mod IndexOf
pub mod Runs
pub mod Records
pub mod Refusal
pub mod Accepted
