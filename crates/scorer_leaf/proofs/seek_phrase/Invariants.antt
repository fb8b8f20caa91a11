-- The phrase stands in no document from the target up to `t`, and its terms can be searched from `t` on.
use Rattle.scorer_leaf.proofs.Loops.{Lengths, Going}
use Rattle.tree_weight.specs.State.{State}
use Rattle.scorer_leaf.specs.Phrases.{PhraseHeld, PhraseMoved}
use lib.Dec.{ltb}
use Rattle.meaning.specs.Phrase.{PhraseTerm, phrase_frequency}
use Rattle.meaning.specs.Lent.{Index}
use Rattle.meaning.specs.Limits.{no_more_docs}
use lib.ListN.{length}
use mathlib.Core.List.{List}
use Prim.Native.Nat.{ℕ, ◌-◌, ◌≤◌}
use Rattle.scorer_leaf.proofs.seek_phrase.Given as goal

abbrev pub invariant-loop-target : goal.invariant-loop-target
invariant-loop-target l = Lengths (length l.states) (length l.initial.states) l.initial.buffers l.buffers × (l.t ≤ no_more_docs) × ((ix : Index) (p f : ℕ) (ts : List PhraseTerm) (s : State) (w : List ℕ) → PhraseHeld l.reader.postings.now l.reader.positions.now ix p f ts s w l.initial.states l.target → Going (λ d. ltb 0 (phrase_frequency ix ts d)) l.target l.t (PhraseMoved ix f ts s l.states l.t))

abbrev pub decreases-loop-target : goal.decreases-loop-target
decreases-loop-target l = no_more_docs - l.t
