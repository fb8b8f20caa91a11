-- The laws of this crate: how the code comes to refusals 8 and 10, and to what 12 asks for.
pub mod Chains
pub mod Records
pub mod Needs
pub mod Refused
