-- The size of a common part is a law of the starts; those who use phrases find it here. Assumes nothing.
pub use Rattle.phrase_starts.proofs.Size.{common-length}
