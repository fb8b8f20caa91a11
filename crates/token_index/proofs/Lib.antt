-- The index made from tokens, each theorem after the laws that it uses.
pub mod Positions
pub mod Runs
pub mod Order
pub mod Frequencies
pub mod Written
pub mod TokensBack
pub mod Passes
pub mod Examples
