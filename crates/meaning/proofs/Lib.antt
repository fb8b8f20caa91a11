-- The laws about the definitions of specs/ that other crates cite, and document 01's examples.
pub mod Tests
pub mod Below
pub mod Sums
pub mod Stores
pub mod Signed
pub mod Lowest
pub mod Examples
pub mod NarrowingExamples
pub mod Scorers
pub mod Phrases
pub mod FailedReadings
