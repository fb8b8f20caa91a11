-- The checks 1 to 6 one by one, the lowest of them, and what is known of an index that passes: for the crates above.
pub mod Below
pub mod Chains
pub mod Whole
pub mod Known
pub mod Values
pub mod Parts
pub mod Words
pub mod Refused
pub mod Accepted
pub mod PostingAt
pub mod WordPlaces
