-- What the contracts of this crate name: what the parts of some children are asked of a window, and what they answer.
pub mod Parts
