-- What it says that an index holds some runs.
pub mod Packs
