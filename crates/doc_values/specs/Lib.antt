-- What the contracts of this crate cite beside the definitions of `meaning`.
pub mod ColumnsOf
pub mod Intervals
pub mod Listed
pub mod RangeRight
