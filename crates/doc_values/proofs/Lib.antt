-- The documents of a range, as a list and as a bitmap.
pub mod Lists
pub mod Ranges
pub mod KeysAsBits
pub mod Bitmaps
pub mod Example
