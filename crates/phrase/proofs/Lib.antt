-- The laws of phrases: size of a common part, the phrase step, Place, the words for an index; and examples that meet
-- what is asked.
pub mod Size
pub mod LeastFrequency
pub mod Steps
pub mod Places
pub mod Words
pub mod Examples
