-- The laws of `any_below` and `count_below`, passed on. Assumes nothing.
pub use Rattle.meaning.proofs.Tests.{or_left, or_right, and_second, or-3, or-4}
pub use Rattle.meaning.proofs.Below.{last-or-below, any-zero as any_none, any-more, any-done, any-like, any-or, any-and, none_below as any_at, any_some as any-hit, any-add, any-rows, count-zero as count_none, count-more, count-one, count_same, count-le, count-lt}
