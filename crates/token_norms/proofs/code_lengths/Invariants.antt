-- The first j bytes are the codes of the first j lengths.
use Rattle.std.proofs.Common.{◌≡◌, ℕ, ◌<◌, get_or}
use Rattle.meaning.specs.SmallFloat.{int_to_byte4}
use Rattle.token_norms.proofs.code_lengths.Given as goal

abbrev pub invariant-loop-j : goal.invariant-loop-j
invariant-loop-j l = (k : ℕ) → k < l.j → get_or l.norms k 0 ≡ int_to_byte4 (get_or l.lengths k 0)
