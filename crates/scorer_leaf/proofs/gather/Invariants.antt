-- The terms before this one have their three words at the front.
use Rattle.std.proofs.Common.{◌≡◌, ℕ, ◌*◌, ◌-◌, ◌%◌, List, length}
use Rattle.meaning.specs.Lent.{Index}
use Rattle.meaning.specs.Phrase.{PhraseTerm}
use Rattle.meaning.specs.Limits.{node_state_words}
use Rattle.scorer_leaf.specs.Phrases.{GatherHeld}
use Rattle.scorer_leaf.proofs.PhraseLaws.{GatherAt}
use Rattle.scorer_leaf.proofs.gather.Given as goal

abbrev pub invariant-loop-at : goal.invariant-loop-at
invariant-loop-at g l = (l.at % node_state_words ≡ 0) × (3 * l.at ≡ node_state_words * l.n) × ((ix : Index) (ts : List PhraseTerm) (d : ℕ) → GatherHeld l.postings ix ts d l.terms (goal.F-post g l.posting) → GatherAt l.postings ix ts d l.terms (goal.F-post g l.posting) l.out l.n l.at)

abbrev pub decreases-loop-at : goal.decreases-loop-at
decreases-loop-at g l = length l.terms - l.at
