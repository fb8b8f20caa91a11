-- The terms of a phrase, moved to a common document, and its frequency there. Assumes nothing: these are definitions.
use Rattle.std.specs.Prelude.{◌≡◌, Bool, true, false, ◌&&◌, List, [], ◌∷◌, ◌++◌, ℕ, ◌+◌, ◌*◌, ◌%◌, ◌≤◌, ◌<◌, ltb, length, get_or, take}
use Rattle.meaning.specs.Limits.{no_more_docs, node_state_words}
use Rattle.meaning.specs.Lent.{Index, leaf_first, leaf_number, leaf_document, leaf_frequency, leaf_positions_index, leaf_count}
use Rattle.meaning.specs.Postings.{posting_at, found}
use Rattle.meaning.specs.Phrase.{PhraseTerm, phrase_frequency}
use Rattle.meaning.specs.First.{First}
use Rattle.index.specs.Accepted.{Accepted}
use Rattle.index.specs.declared.postings.TheConstants.{POSTING_WORDS, POSITIONS}
use Rattle.phrase.specs.Terms.{TERM_WORDS}
use Rattle.tree_weight.specs.ScorerTree.{phrase}
use Rattle.tree_weight.specs.State.{State, words_of}
use Rattle.tree_weight.specs.Held.{TermIs, TermsAre, PhraseIs}
use Rattle.tree_weight.specs.Sound.{LeafSound}
use Rattle.tree_weight.specs.declared.layout.TheConstants.{OFFSET, FREQUENCY_OF}
use Rattle.scorer_leaf.specs.Calls.{SeekKept, Approximates}

-- every term has a posting of the document
unfoldable pub all_found : Index → List PhraseTerm → ℕ → Bool
all_found ix [] d = true
all_found ix (t ∷ ts) d = found (posting_at ix t.leaf d) && all_found ix ts d

-- the leaves of the terms are there
unfoldable pub LeavesThere : Index → List PhraseTerm → Type 0
LeavesThere ix [] = Unit
LeavesThere ix (t ∷ ts) = (t.leaf < leaf_count ix) × LeavesThere ix ts

-- the records of the terms, each standing at its posting of the document
unfoldable pub TermsAt : Index → List PhraseTerm → List ℕ → ℕ → Type 0
TermsAt ix [] w d = w ≡ []
TermsAt ix (t ∷ ts) w d =
    (s : State) × (w' : List ℕ) × (w ≡ words_of s ++ w') × TermIs ix 9 t.leaf s d × (s.offset ≡ t.offset)
    × (s.cursor < leaf_number ix t.leaf) × (leaf_document ix t.leaf s.cursor ≡ d) × TermsAt ix ts w' d

-- an accepted index with these postings, and the words of a phrase's terms
pub record TermsHeld (postings : List ℕ) (ix : Index) (ts : List PhraseTerm) (terms : List ℕ) (b : ℕ) : Type 0 where
  pub accepted : Accepted ix
  pub postings-are : ix.postings ≡ postings
  pub there : LeavesThere ix ts
  pub are : TermsAre ix ts terms b

abbrev pub TermsPre : List ℕ → List ℕ → ℕ → Type 0
TermsPre postings terms target =
    (target ≤ no_more_docs) × ((ix : Index) × (ts : List PhraseTerm) × TermsHeld postings ix ts terms target)

-- one pass: nothing from t up to r is a document of all; they stand there, or it moved
pub record TermsPassed (ix : Index) (ts : List PhraseTerm) (t r : ℕ) (hit : Bool) (terms : List ℕ) : Type 0 where
  pub from : t ≤ r
  pub top : r ≤ no_more_docs
  pub before : (d : ℕ) → t ≤ d → d < r → all_found ix ts d ≡ false
  pub are : TermsAre ix ts terms r
  pub stand : hit ≡ true → r < no_more_docs → TermsAt ix ts terms r
  pub moved : hit ≡ false → t < r

abbrev pub PassTermsPost : List ℕ → List ℕ → ℕ → ℕ → Bool → List ℕ → Type 0
PassTermsPost postings terms target r hit terms' =
    (ix : Index) (ts : List PhraseTerm) → TermsHeld postings ix ts terms target
    → TermsPassed ix ts target r hit terms'

-- r is the first document of all, or the end, and they stand there
pub record Leapt (ix : Index) (ts : List PhraseTerm) (t r : ℕ) (terms : List ℕ) : Type 0 where
  pub from : t ≤ r
  pub top : r ≤ no_more_docs
  pub before : (d : ℕ) → t ≤ d → d < r → all_found ix ts d ≡ false
  pub are : TermsAre ix ts terms r
  pub stand : r < no_more_docs → TermsAt ix ts terms r

abbrev pub LeapfrogPost : List ℕ → List ℕ → ℕ → ℕ → List ℕ → Type 0
LeapfrogPost postings terms target r terms' =
    (ix : Index) (ts : List PhraseTerm) → TermsHeld postings ix ts terms target → Leapt ix ts target r terms'

-- what holds at each place where so many words may have a record
abbrev pub EachRecord : (ℕ → Type 0) → ℕ → Type 0
EachRecord P n = (at : ℕ) → at + node_state_words ≤ n → P at

-- p is the word of a term's posting of the document
pub record PostingIs (ix : Index) (t : PhraseTerm) (d p : ℕ) : Type 0 where
  pub place : ℕ
  pub within : place < leaf_number ix t.leaf
  pub document : leaf_document ix t.leaf place ≡ d
  pub word : p ≡ POSTING_WORDS * (leaf_first ix t.leaf + place)

-- the records of the terms from a place of the words on, where P says the word of each one's posting of the document
unfoldable pub PostingsAt : Index → List PhraseTerm → List ℕ → ℕ → ℕ → (ℕ → ℕ → Type 0) → Type 0
PostingsAt ix [] w at d P = at ≡ length w
PostingsAt ix (t ∷ ts) w at d P =
    (at + node_state_words ≤ length w) × (get_or w (at + OFFSET) 0 ≡ t.offset)
    × ((p : ℕ) → P at p → PostingIs ix t d p) × PostingsAt ix ts w (at + node_state_words) d P

-- of each term's posting of the document: the index of its first position, its frequency, and the term's offset
unfoldable pub Gathered : Index → List PhraseTerm → ℕ → List ℕ → Type 0
Gathered ix [] d l = l ≡ []
Gathered ix (t ∷ ts) d l =
    (i : ℕ) × (l' : List ℕ) × (i < leaf_number ix t.leaf) × (leaf_document ix t.leaf i ≡ d)
    × (l ≡ leaf_positions_index ix t.leaf i ∷ leaf_frequency ix t.leaf i ∷ t.offset ∷ l')
    × Gathered ix ts d l'

pub record GatherHeld (postings : List ℕ) (ix : Index) (ts : List PhraseTerm) (d : ℕ) (terms : List ℕ)
    (P : ℕ → ℕ → Type 0) : Type 0 where
  pub accepted : Accepted ix
  pub postings-are : ix.postings ≡ postings
  pub there : LeavesThere ix ts
  pub at : PostingsAt ix ts terms 0 d P

-- the postings are there of the records in so many words
abbrev pub PostingsThere : List ℕ → ℕ → (ℕ → ℕ → Type 0) → Type 0
PostingsThere postings n P = (at p : ℕ) → at % node_state_words ≡ 0 → at < n → P at p → p + POSITIONS < length postings

-- so many words are written to the front
pub record GatheredTo (ix : Index) (ts : List PhraseTerm) (d r : ℕ) (out : List ℕ) : Type 0 where
  pub number : r ≡ TERM_WORDS * length ts
  pub gathered : Gathered ix ts d (take r out)

abbrev pub GatherPost : List ℕ → List ℕ → (ℕ → ℕ → Type 0) → ℕ → List ℕ → Type 0
GatherPost postings terms P r out =
    (ix : Index) (ts : List PhraseTerm) (d : ℕ) → GatherHeld postings ix ts d terms P
    → GatheredTo ix ts d r out

-- a sound phrase, and the records of its terms, where P says the word of each one's posting of a document
pub record PostingsHeld (postings positions : List ℕ) (ix : Index) (places f : ℕ) (ts : List PhraseTerm)
    (d : ℕ) (terms : List ℕ) (P : ℕ → ℕ → Type 0) : Type 0 where
  pub accepted : Accepted ix
  pub postings-are : ix.postings ≡ postings
  pub positions-are : ix.positions ≡ positions
  pub sound : LeafSound ix places (phrase f ts)
  pub at : PostingsAt ix ts terms 0 d P

abbrev pub FrequencyByPre : List ℕ → List ℕ → List ℕ → (ℕ → ℕ → Type 0) → ℕ → ℕ → Type 0
FrequencyByPre postings positions terms P starts other_starts =
    (ix : Index) × (places : ℕ) × (f : ℕ) × (ts : List PhraseTerm) × (d : ℕ) × (places ≤ starts)
    × (places ≤ other_starts) × PostingsHeld postings positions ix places f ts d terms P

abbrev pub FrequencyByPost : List ℕ → List ℕ → List ℕ → (ℕ → ℕ → Type 0) → ℕ → Type 0
FrequencyByPost postings positions terms P r =
    (ix : Index) (places f : ℕ) (ts : List PhraseTerm) (d : ℕ)
    → PostingsHeld postings positions ix places f ts d terms P → r ≡ phrase_frequency ix ts d

-- the terms of a sound phrase stand at a document
pub record FrequencyHeld (postings positions : List ℕ) (ix : Index) (places f : ℕ) (ts : List PhraseTerm)
    (d : ℕ) (terms : List ℕ) : Type 0 where
  pub accepted : Accepted ix
  pub postings-are : ix.postings ≡ postings
  pub positions-are : ix.positions ≡ positions
  pub sound : LeafSound ix places (phrase f ts)
  pub stand : TermsAt ix ts terms d

abbrev pub FrequencyPre : List ℕ → List ℕ → List ℕ → ℕ → ℕ → Type 0
FrequencyPre postings positions terms starts other_starts =
    (ix : Index) × (places : ℕ) × (f : ℕ) × (ts : List PhraseTerm) × (d : ℕ) × (places ≤ starts)
    × (places ≤ other_starts) × FrequencyHeld postings positions ix places f ts d terms

abbrev pub FrequencyPost : List ℕ → List ℕ → List ℕ → ℕ → Type 0
FrequencyPost postings positions terms r =
    (ix : Index) (places f : ℕ) (ts : List PhraseTerm) (d : ℕ)
    → FrequencyHeld postings positions ix places f ts d terms → r ≡ phrase_frequency ix ts d

-- ---- the phrase
-- a record with another frequency that was worked out
abbrev pub worked_at : State → ℕ → ℕ → State
worked_at s d n = record s { frequency_of = d; frequency = n }

pub record PhraseHeld (postings positions : List ℕ) (ix : Index) (places f : ℕ) (ts : List PhraseTerm)
    (s : State) (w states : List ℕ) (b : ℕ) : Type 0 where
  pub accepted : Accepted ix
  pub postings-are : ix.postings ≡ postings
  pub positions-are : ix.positions ≡ positions
  pub sound : LeafSound ix places (phrase f ts)
  pub words : states ≡ words_of s ++ w
  pub is : PhraseIs ix f ts s w b

abbrev pub SeekPhrasePre : List ℕ → List ℕ → ℕ → ℕ → List ℕ → ℕ → Type 0
SeekPhrasePre postings positions starts other_starts states target =
    (target ≤ no_more_docs)
    × ((ix : Index) × (places : ℕ) × (f : ℕ) × (ts : List PhraseTerm) × (s : State) × (w : List ℕ)
    × (places ≤ starts) × (places ≤ other_starts)
    × PhraseHeld postings positions ix places f ts s w states target)

-- the record after the move, where only the frequency that was worked out is new
pub record PhraseMoved (ix : Index) (f : ℕ) (ts : List PhraseTerm) (s : State) (states : List ℕ) (b : ℕ) : Type 0 where
  pub state : State
  pub behind : List ℕ
  pub words : states ≡ words_of state ++ behind
  pub kept : SeekKept s state
  pub is : PhraseIs ix f ts state behind b

-- .. and the frequency that is stored is that of the document where the phrase stands
abbrev pub SeekPhrasePost : List ℕ → List ℕ → List ℕ → ℕ → ℕ → List ℕ → Type 0
SeekPhrasePost postings positions states target r states' =
    (ix : Index) (places f : ℕ) (ts : List PhraseTerm) (s : State) (w : List ℕ)
    → PhraseHeld postings positions ix places f ts s w states target
    → First (λ d. ltb 0 (phrase_frequency ix ts d)) target r × PhraseMoved ix f ts s states' r
    × (r < no_more_docs → get_or states' FREQUENCY_OF 0 ≡ r + 1)

-- asked about the target alone: r is the target where the phrase stands there
abbrev pub PhraseAtPost : List ℕ → List ℕ → List ℕ → ℕ → ℕ → List ℕ → Type 0
PhraseAtPost postings positions states target r states' =
    (ix : Index) (places f : ℕ) (ts : List PhraseTerm) (s : State) (w : List ℕ)
    → PhraseHeld postings positions ix places f ts s w states target
    → Approximates (λ d. ltb 0 (phrase_frequency ix ts d)) target target r × PhraseMoved ix f ts s states' r
