-- Terms that pass the program's own checks are such as a phrase takes.
pub mod Checks
