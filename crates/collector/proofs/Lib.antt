-- The laws of codes, of the heap and of the collector, each after those that it uses.
pub mod Counts
pub mod Sorted
pub mod Heaps
pub mod Halves
pub mod Best
pub mod Ranked
pub mod Marks
pub mod Lists
pub mod Steps
pub mod Collecting
pub mod Passing
pub mod Entering
pub mod Popping
pub mod Beginning
pub mod Picked
