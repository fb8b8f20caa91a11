-- Lists that pass the program's own check are such as Pick takes.
pub mod Checks
