-- What is gathered of the records of a run, in rows of four and one by one.
pub mod Filling
pub mod Over
pub mod Joining
