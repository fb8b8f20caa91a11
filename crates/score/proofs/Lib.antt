-- A Boolean's score from its children's, loop by loop and call by call; and the bounds of a score, for the crates
-- above.
pub mod Parts
pub mod Sums
pub mod Join
pub mod Small
pub mod Alone
pub mod Nodes
pub mod Loops
pub mod Booleans
