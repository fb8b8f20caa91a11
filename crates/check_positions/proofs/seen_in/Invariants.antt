-- `all` is at least each position before the k-th, and `falls` counts those that are below the one before.
use Rattle.std.proofs.Common.{◌≡◌, ℕ, ◌<◌, ◌≤◌, get_or}
use Rattle.meaning.specs.Below.{count_below}
use Rattle.check_positions.specs.Places.{drop_at}
use Rattle.check_positions.proofs.seen_in.Given as goal

abbrev pub invariant-loop-k : goal.invariant-loop-k
invariant-loop-k l = record { bound : (i : ℕ) → i < l.k → get_or l.part i 0 ≤ l.all; dropped : l.falls ≡ count_below l.k (drop_at l.part) }
