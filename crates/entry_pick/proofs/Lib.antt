-- The Pick entry: which lists it refuses, and what it answers and writes.
pub mod PickEntry
