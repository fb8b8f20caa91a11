-- Field lengths: runs added up window by window, coded as bytes, and stored field by field.
pub mod Stored
pub mod Filled
pub mod Passed
pub mod Adding
pub mod Leaves
pub mod Window
pub mod Fields
pub mod Norms
