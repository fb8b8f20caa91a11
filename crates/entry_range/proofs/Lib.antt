-- The Range entry: which calls it refuses, and what it answers and writes.
pub mod RangeEntry
