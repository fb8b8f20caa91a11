-- The words of the files and the lines that are printed.
pub mod Text
pub mod Contents
