-- The laws of `list_to`, passed on: one more element, its length, and the element at an index. Assumes nothing.
pub use Rattle.meaning.proofs.Below.{list_to-zero, list_to-next, length-list_to as list_to-length, get_or-list_to as list_to-at}
