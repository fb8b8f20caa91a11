-- The words of each leaf as the code writes them.
pub mod Placing
pub mod Norms
pub mod PhraseParts
pub mod Idf
pub mod Weighing
pub mod Zeros
pub mod AtRecord
pub mod Kept
