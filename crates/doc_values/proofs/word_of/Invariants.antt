-- The bits so far are of the documents from the j-th on.
use Rattle.std.proofs.Common.{ℕ, Bool, ◌+◌, ◌-◌, ◌<◌, ◌≡◌, ◌&&◌, ltb}
use Rattle.bits.specs.Bit.{bit}
use Rattle.doc_values.proofs.word_of.Given as goal

abbrev pub invariant-loop-j : goal.invariant-loop-j
invariant-loop-j g l =
    (takes : ℕ → Bool) → ((d : ℕ) (b : Bool) → g.F.Fn.post l.lists (d, tt) b → b ≡ takes d) → (p : ℕ) → p < 32 → bit p l.w ≡ (ltb p (l.count - l.j) && takes (l.first + l.j + p))
