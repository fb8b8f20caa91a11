-- The m leaves from `l` to `end` have runs that follow one another up to `runs_end`, each last document below N.
use Rattle.std.proofs.Common.{◌≡◌, ℕ, ◌+◌, ◌/◌, ◌<◌, ◌≤◌, false, length}
use Rattle.index.specs.IndexOf.{index_of}
use Rattle.check_leaves.specs.Together.{Together}
use Rattle.check_leaves.proofs.adjacent.Given as goal

abbrev pub invariant-loop-end : goal.invariant-loop-end
invariant-loop-end l =
    (m : ℕ) × ((l.end ≡ l.l + m) × (0 < m) × (l.l + m ≤ l.limit) × (1 ≤ l.runs_end) × (l.runs_end ≤ length l.lent.postings.now / 3) × Together (index_of l.lent) l.l m l.runs_end l.falls false)
