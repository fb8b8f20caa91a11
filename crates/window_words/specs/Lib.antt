-- What the contracts of the crates that ask by windows name.
pub mod Windowed
