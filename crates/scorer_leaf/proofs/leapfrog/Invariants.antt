-- No document from the target up to `d` has all the terms, and the terms can be asked from `d` on.
use Rattle.scorer_leaf.proofs.Loops.{Going}
use Rattle.scorer_leaf.specs.Phrases.{TermsHeld, all_found}
use Rattle.meaning.specs.Phrase.{PhraseTerm}
use Rattle.meaning.specs.Lent.{Index}
use Rattle.meaning.specs.Limits.{no_more_docs}
use lib.ListN.{length}
use mathlib.Core.List.{List}
use mathlib.Core.Path.{◌≡◌}
use Prim.Native.Nat.{◌-◌, ◌≤◌}
use Rattle.scorer_leaf.proofs.leapfrog.Given as goal

abbrev pub invariant-loop-p : goal.invariant-loop-p
invariant-loop-p l = (length l.terms ≡ length l.initial.terms) × (l.d ≤ no_more_docs) × ((ix : Index) (ts : List PhraseTerm) → TermsHeld l.postings ix ts l.initial.terms l.target → Going (all_found ix ts) l.target l.d (TermsHeld l.postings ix ts l.terms l.d))

abbrev pub decreases-loop-p : goal.decreases-loop-p
decreases-loop-p l = no_more_docs - l.d
