-- Document 02, request 2026-01: a lot whose live bit is cleared between two runs. Assumes nothing: these are
-- definitions.
use Rattle.std.specs.Prelude.{Bool, cond, ◌&&◌, List, [], ◌∷◌, ◌++◌, ℕ, ◌+◌, ◌-◌, ◌*◌, ◌/◌, ◌%◌, ◌^◌, eqb, ltb, length, get_or, set, take, replicate, ℤ}
use Rattle.meaning.specs.Lent.{Index}
use Rattle.meaning.specs.Live.{is_live}
use Rattle.meaning.specs.Query.{Tree}
use Rattle.meaning.specs.Takes.{takes}
use Rattle.meaning.specs.FullList.{ScoreDoc}
use Rattle.meaning.specs.Hits.{to_doc}

-- the live words; where none are lent ("no words at all means all are live"), N ÷ 64 rounded up words in which every
-- bit is set:
-- a bit can be cleared only once words stand there
unfoldable pub live_words : Index → List ℕ
live_words ix = cond (eqb (length ix.live) 0) (replicate ((ix.max_doc + 63) / 64) (2 ^ 64 - 1)) ix.live

-- a word with bit j set to 0: less 2^j where the bit is 1
unfoldable pub clear_bit : ℕ → ℕ → ℕ
clear_bit j w = w - w / 2 ^ j % 2 * 2 ^ j

-- "clear a lot's live bit": document d is bit d mod 64 of word d div 64; a d beyond the words changes nothing
unfoldable pub cleared : ℕ → List ℕ → List ℕ
cleared d words = set words (d / 64) (clear_bit (d % 64) (get_or words (d / 64) 0))

-- an index after document d's live bit is cleared, all else as it was
unfoldable pub withdrawn : Index → ℕ → Index
withdrawn ix d =
    record {
      max_doc = ix.max_doc;
      fields = ix.fields;
      leaves = ix.leaves;
      postings = ix.postings;
      positions = ix.positions;
      norms = ix.norms;
      live = cleared d (live_words ix);
      columns = ix.columns;
      values = ix.values;
    }

-- d is a live match of a query: below N, live, and taken
unfoldable pub live_and_taken : Index → Tree → ℕ → Bool
live_and_taken ix t d = ltb d ix.max_doc && is_live ix d && takes ix t d

-- a list without the entries whose document is d, by what tells an entry's document
unfoldable pub without_by {ℓ} : {A : Type ℓ} → (A → ℕ) → ℕ → List A → List A
without_by doc_of d [] = []
without_by doc_of d (x ∷ xs) = cond (eqb (doc_of x) d) [] (x ∷ []) ++ without_by doc_of d xs

-- "removes that document from the full list and changes no other document or score": a full list afterwards
unfoldable pub without : ℕ → List ScoreDoc → List ScoreDoc
without d list = without_by (λ h. h.doc) d list

-- ".. that lot taken out" of some hits, each its code
unfoldable pub without_code : ℕ → List ℤ → List ℤ
without_code d codes = without_by to_doc d codes

-- "The k hits afterwards are the first k of the k + 1 hits before, that lot taken out": of the hits before
unfoldable pub afterwards : ℕ → ℕ → List ℤ → List ℤ
afterwards k d codes = take k (without_code d codes)
