-- Words that meet what `frequency` and `place` ask, with document 01's answers: positions {0, 5, 5} and {6, 6, 9} at
-- offsets 0 and 1 twice, and a start below 0. Assumes nothing.
use mathlib.Core.Path.{◌≡◌, refl, subst}
use mathlib.Core.Bool.{false}
use mathlib.Core.List.{List, [], ◌∷◌}
use mathlib.Core.Option.{some}
use Prim.Native.Nat.{ℕ}
use native.Mathlib.Omega.{arith}
use lib.IntN.{negsuc}
use Rattle.meaning.specs.Below.{list_to, any_below, last_below}
use Rattle.meaning.specs.Lent.{Index}
use Rattle.meaning.specs.IndexRefusals.{wrong_position, wrong_positions}
use Rattle.meaning.specs.Phrase.{PhraseTerm, starts, multiplicity, smallest, distinct, sum_smallest, common_size}
use Rattle.phrase_starts.specs.Terms.{starts_of, start_lists, Good, Room}
use Rattle.phrase.specs.Words.{phrase_words}
use Rattle.phrase.proofs.Words.{AllFine, words-good, words-room}

abbrev words : Index
words =
    record {
      max_doc = 1;
      fields = 0x3f80_0000 ∷ 0 ∷ 1 ∷ [];
      leaves = 0 ∷ 0 ∷ 1 ∷ 0 ∷ 0 ∷ 1 ∷ 1 ∷ 0 ∷ [];
      postings = 0 ∷ 3 ∷ 0 ∷ 0 ∷ 3 ∷ 3 ∷ [];
      positions = 0 ∷ 5 ∷ 5 ∷ 6 ∷ 6 ∷ 9 ∷ [];
      norms = [];
      live = [];
      columns = [];
      values = [];
    }

abbrev phrase : List PhraseTerm
phrase = record { leaf = 0; offset = 0 } ∷ record { leaf = 1; offset = 1 } ∷ []

the-posting : (i : ℕ) → some 0 ≡ some i → 0 ≡ i
the-posting i e = cc

fine : AllFine words 0 phrase
unfolding AllFine last_below any_below wrong_positions wrong_position
fine = (
  record { offset-small = omega arith; positions = λ i e. (refl, subst (λ (k : ℕ). wrong_positions words 0 k ≡ false) (the-posting i e) refl) },
  (record { offset-small = omega arith; positions = λ i e. (refl, subst (λ (k : ℕ). wrong_positions words 1 k ≡ false) (the-posting i e) refl) }, tt),
)

pub asked : Good words.positions (phrase_words words 0 phrase)
asked = words-good words 0 phrase (omega arith) fine

pub room : Room (phrase_words words 0 phrase) 3
unfolding last_below
room = words-room words 0 (record { leaf = 0; offset = 0 }) (record { leaf = 1; offset = 1 } ∷ []) 3 (omega arith)

pub twice : common_size (start_lists words.positions (phrase_words words 0 phrase)) ≡ 2
unfolding phrase_words last_below list_to starts starts_of start_lists multiplicity smallest distinct sum_smallest common_size
twice = refl

pub below-zero : start_lists (0 ∷ []) (0 ∷ 1 ∷ 1 ∷ []) ≡ (negsuc 0 ∷ []) ∷ []
unfolding list_to starts starts_of start_lists
below-zero = refl
