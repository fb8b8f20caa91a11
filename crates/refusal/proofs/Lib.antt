-- What the crates above cite of a refusal's number.
pub mod Positive
