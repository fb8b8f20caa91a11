-- A phrase's terms in the document at hand: records of three words, the index of the first position, the frequency and
-- the offset. Assumes nothing: these are definitions.
use Rattle.std.specs.Prelude.{◌≡◌, List, [], ◌∷◌, ℕ, suc, ◌+◌, ◌%◌, ◌≤◌, ◌<◌, ℤ, length, get_or}
use Rattle.meaning.specs.Below.{list_to}
use Rattle.meaning.specs.Phrase.{starts}
use Rattle.phrase_starts.specs.declared.Term.{Term}
use Rattle.phrase_starts.specs.declared.TheConstants.{TERM_WORDS, TERM_FREQUENCY, TERM_OFFSET}
use Rattle.meaning.specs.Limits.{no_more_docs}

-- the term whose record begins at a word
abbrev pub term_at : List ℕ → ℕ → Term
term_at ts at =
    record {
      first = get_or ts at 0;
      freq = get_or ts (at + TERM_FREQUENCY) 0;
      offset = get_or ts (at + TERM_OFFSET) 0;
    }

-- its starts
unfoldable pub starts_of : List ℕ → Term → List ℤ
starts_of ps t = starts t.offset (list_to t.freq (λ j. get_or ps (t.first + j) 0))

-- the starts of each term, in record order
unfoldable pub start_lists : List ℕ → List ℕ → List (List ℤ)
start_lists ps [] = []
start_lists ps (f ∷ []) = []
start_lists ps (f ∷ n ∷ []) = []
start_lists ps (f ∷ n ∷ o ∷ ts) = starts_of ps (record { first = f; freq = n; offset = o }) ∷ start_lists ps ts

-- a term's positions are there, do not fall and, like its offset, are at most document 01's largest position
pub record GoodTerm (ps : List ℕ) (t : Term) : Type 0 where
  pub within : t.first + t.freq ≤ length ps
  pub rising : (j : ℕ) → suc j < t.freq → get_or ps (t.first + j) 0 ≤ get_or ps (t.first + suc j) 0
  pub small : (j : ℕ) → j < t.freq → get_or ps (t.first + j) 0 ≤ no_more_docs
  pub offset-small : t.offset ≤ no_more_docs

-- at least one term, whole records, each good
pub record Good (ps ts : List ℕ) : Type 0 where
  pub some : 0 < length ts
  pub whole : length ts % TERM_WORDS ≡ 0
  pub each : (at : ℕ) → at % TERM_WORDS ≡ 0 → at < length ts → GoodTerm ps (term_at ts at)

-- some term's starts have room in so many places (then so have the rarest term's)
pub record Room (ts : List ℕ) (places : ℕ) : Type 0 where
  pub term : ℕ
  pub record-start : term % TERM_WORDS ≡ 0
  pub one-of-them : term < length ts
  pub enough : (term_at ts term).freq ≤ places

-- the record at a word is that of the first term with the least frequency
pub record Rarest (ts : List ℕ) (r : ℕ) : Type 0 where
  pub record-start : r % TERM_WORDS ≡ 0
  pub one-of-them : r < length ts
  pub least : (at : ℕ) → at % TERM_WORDS ≡ 0 → at < length ts → (term_at ts r).freq ≤ (term_at ts at).freq
  pub first : (at : ℕ) → at % TERM_WORDS ≡ 0 → at < r → (term_at ts r).freq < (term_at ts at).freq
