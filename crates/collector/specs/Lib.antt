-- What the contracts of this crate cite beyond document 01's definitions.
pub mod Flipped
pub mod Heap
pub mod State
pub mod Collected
pub mod Entering
