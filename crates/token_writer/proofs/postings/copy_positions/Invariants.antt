-- The first j places hold the positions of the first j tokens.
use Rattle.std.proofs.Common.{◌≡◌, ℕ, ◌+◌, ◌<◌, get_or}
use Rattle.meaning.specs.Tokens.{token_at}
use Rattle.token_writer.proofs.postings.copy_positions.Given as goal

abbrev pub invariant-loop-j : goal.invariant-loop-j
invariant-loop-j l = (k : ℕ) → k < l.j → get_or l.positions k 0 ≡ (token_at l.tokens (l.from + k)).position
