-- What demand 3 says of a list of pages and of hits.
pub mod Demands
