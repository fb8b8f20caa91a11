-- A leaf's score: its frequency, BM25 by its field's norm byte, and bounds; for the crates above.
pub mod Bounds
pub mod Frequencies
pub mod Weights
pub mod Leaves
pub mod Nodes
pub mod Constants
