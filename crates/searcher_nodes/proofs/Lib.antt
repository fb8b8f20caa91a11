-- The plain mathematics of this crate's proofs.
pub mod SearchOnRecords
pub mod PageOnRecords
