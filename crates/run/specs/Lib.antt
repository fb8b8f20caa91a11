-- What the contracts of this crate name: a run of documents, and what a search in it answers.
pub mod Run
