-- The words that say a phrase's terms in a document of an index: what a caller writes for `frequency` and `place`.
-- Assumes nothing: these are definitions.
use Rattle.std.specs.Prelude.{List, [], ◌∷◌, ℕ}
use Rattle.std.proofs.Math.Option.{Option, none, some}
use Rattle.meaning.specs.Lent.{Index, leaf_positions_index}
use Rattle.meaning.specs.Postings.{posting_at, frequency_of}
use Rattle.meaning.specs.Phrase.{PhraseTerm}

-- the index of the first position of the document's posting, and 0 without one
abbrev pub first_of : Index → ℕ → Option ℕ → ℕ
first_of ix l none = 0
first_of ix l (some i) = leaf_positions_index ix l i

-- three words for each term, in record order
unfoldable pub phrase_words : Index → ℕ → List PhraseTerm → List ℕ
phrase_words ix d [] = []
phrase_words ix d (t ∷ ts) =
    first_of ix t.leaf (posting_at ix t.leaf d) ∷ frequency_of ix t.leaf (posting_at ix t.leaf d) ∷ t.offset
    ∷ phrase_words ix d ts
