-- The text that is printed: digits, lines, the lines of all hits, and words read from a file.
pub mod Putting
pub mod Filling
pub mod Numbers
pub mod Lines
pub mod Scores
