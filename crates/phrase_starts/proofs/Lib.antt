-- The laws of starts: order, merge, records, size of a common part.
pub mod Order
pub mod Merge
pub mod Records
pub mod Size
pub mod Merged
pub mod Paired
