-- The inverses so far are those of the lengths.
use Rattle.std.proofs.Common.{◌≡◌, ℕ, ◌<◌, length, get_or}
use lib.Ieee.{nan}
use Rattle.meaning.specs.Bm25.{length_of, inverse}
use Rattle.sim.proofs.bm25.Bm25.new.Given as goal

abbrev pub invariant-loop-norm : goal.invariant-loop-norm
invariant-loop-norm l = record {
  long : length l.inverse-items ≡ 256;
  filled : (k : ℕ) → k < l.norm → get_or l.inverse-items k nan ≡ inverse l.average (length_of k);
}
