-- What Search and Page promise: their answers in document 01's numbers, and what their calls leave of the work buffers.
pub mod Answers
pub mod WorkBuffers
pub mod Searches
pub mod Pages
pub mod WalkLent
