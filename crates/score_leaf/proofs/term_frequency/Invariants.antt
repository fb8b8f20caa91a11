-- No posting from the cursor up to i is of the document.
use Prim.Native.Nat.{ℕ, ◌≤◌, ◌<◌}
use mathlib.Core.Path.{◌≡◌}
use Rattle.index.specs.Runs.{posting_document}
use Rattle.score_leaf.proofs.term_frequency.Given as goal

abbrev pub invariant-loop-i : goal.invariant-loop-i
invariant-loop-i l = (k : ℕ) → k < l.i → l.cursor ≤ k → posting_document l.postings l.first k ≡ l.doc → ⊥
