-- The sums of a window: each leaf's and each loop's share, and the calls for a Boolean one after the other.
pub mod Adding
pub mod Terms
pub mod Phrases
mod Loops
mod Required
mod Optional
mod Splits
mod Groups
mod OnlyChild
mod Booleans
mod Joined
pub mod Alone
mod Nodes
