-- A range that the program asks is not refused.
pub mod Asked
