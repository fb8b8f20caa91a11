-- `w` has the wanted places that the terms before the one at `at` all have; no match lies between the window and
-- `next`.
use Rattle.std.proofs.Common.{◌≡◌, List, length}
use Rattle.meaning.specs.Lent.{Index}
use Rattle.meaning.specs.Phrase.{PhraseTerm}
use Rattle.window_leaf.specs.Phrases.{TermsBitsHeld}
use Rattle.window_leaf.proofs.TermLaws.{Asking}
use Rattle.window_leaf.proofs.phrases.terms_bits.Given as goal

abbrev pub invariant-loop-at : goal.invariant-loop-at
invariant-loop-at l = (length l.terms ≡ length l.initial.terms) × ((ix : Index) (ts : List PhraseTerm) → TermsBitsHeld l.postings ix ts l.initial.terms l.base → Asking l.postings ix ts l.base l.want l.terms l.w l.next l.at)
