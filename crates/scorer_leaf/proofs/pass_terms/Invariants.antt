-- The terms before the one at `at` were advanced, and no document from the target up to `d` has all the terms.
use Rattle.scorer_leaf.proofs.PhraseLaws.{TermsZip}
use Rattle.scorer_leaf.specs.Phrases.{TermsHeld}
use Rattle.meaning.specs.Phrase.{PhraseTerm}
use Rattle.meaning.specs.Lent.{Index}
use lib.ListN.{length}
use mathlib.Core.List.{List}
use mathlib.Core.Path.{◌≡◌}
use Prim.Native.Nat.{ℕ, ◌-◌}
use lib.Dec.{eqb}
use Rattle.scorer_leaf.proofs.pass_terms.Given as goal

abbrev pub invariant-loop-at : goal.invariant-loop-at
invariant-loop-at l = (length l.terms ≡ length l.initial.terms) × ((last : ℕ) × (l.hit ≡ eqb last 0) × ((ix : Index) (ts : List PhraseTerm) → TermsHeld l.postings ix ts l.initial.terms l.target → TermsZip l.postings ix ts l.target l.terms l.d last l.at))

abbrev pub decreases-loop-at : goal.decreases-loop-at
decreases-loop-at l = length l.terms - l.at
