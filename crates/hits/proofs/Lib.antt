-- From the bytes of the files to the text that the program prints.
pub mod Answering
pub mod Taken
pub mod Example
