-- The frequencies at the candidates passed are noted in the planes; those in `left` are still to come.
use Rattle.std.proofs.Common.{◌≡◌, true, List, ℕ}
use Rattle.meaning.specs.Lent.{Index}
use Rattle.meaning.specs.Phrase.{PhraseTerm}
use Rattle.bits.specs.Bit.{bit}
use Rattle.scorer_leaf.specs.Buffers.{SameBuffers}
use Rattle.window_words.specs.Windowed.{places_of}
use Rattle.window_leaf.specs.Phrases.{PhraseAsked}
use Rattle.window_leaf.proofs.PlaneLaws.{Noting}
use Rattle.window_leaf.proofs.phrases.planes_of.Given as goal

abbrev pub invariant-loop-place : goal.invariant-loop-place
invariant-loop-place l = SameBuffers l.initial.buffers l.buffers × ((p : ℕ) → bit p l.place-iterator.left ≡ true → bit p l.candidates ≡ true) × ((ix : Index) (places f : ℕ) (ts : List PhraseTerm) → PhraseAsked l.window.reader.postings.now l.window.reader.positions.now ix places f ts l.window.base (places_of l.candidates) l.terms → Noting ix ts l.window.base l.candidates l.place-iterator.left l.planes.ones l.planes.twos)
