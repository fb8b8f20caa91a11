-- The laws of the search in a run of documents.
pub mod Runs
