-- Which patterns are numbers.
pub mod Patterns
