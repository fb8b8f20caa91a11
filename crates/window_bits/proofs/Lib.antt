-- A Boolean's children, asked for a window: each loop over them, the calls one after the other, and the node.
pub mod ByKind
pub mod Matching
pub mod Children
pub mod Passes
pub mod Optionals
pub mod Prohibited
pub mod Booleans
pub mod Nodes
