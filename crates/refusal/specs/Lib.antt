-- The number of each refusal, and of an answer that may be one.
pub mod Numbers
