-- What the proofs of this crate share, and those of Search and Page over records.
pub mod Preparing
pub mod Answering
pub mod Fewer
pub mod OnRecords
