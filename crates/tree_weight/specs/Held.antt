-- What the words of a node's part say of its scorer, once the node has been asked for documents up to a bound.
-- Assumes nothing: these are definitions.
use Rattle.std.specs.Prelude.{◌≡◌, Bool, cond, List, [], ◌∷◌, ◌++◌, ℕ, suc, ◌+◌, ◌-◌, ◌*◌, ◌^◌, ◌≤◌, ◌<◌, max, T, length, Float}
use Rattle.std.proofs.Math.Option.{Option, none, some}
use Rattle.std.specs.Float.{binary32}
use Rattle.std.specs.Float.Ieee.{fits, to_bits}
use Rattle.meaning.specs.Below.{count_below}
use Rattle.meaning.specs.Limits.{no_more_docs, node_state_words}
use Rattle.meaning.specs.Lent.{Index, has_norms, leaf_first, leaf_number, leaf_field, leaf_document}
use Rattle.meaning.specs.Range.{NumericRange}
use Rattle.meaning.specs.Phrase.{PhraseTerm, phrase_frequency}
use Rattle.meaning.specs.First.{First}
use Rattle.ieee754.specs.Nonneg.{AtMost}
use Rattle.bits.specs.Bit.{bitmap_words, Bitmap}
use Rattle.tree_weight.specs.ScorerTree.{Leaf, nothing, term, phrase, range, everything, Scoring, constant, weighted, Joining, one_more, afterwards, Scorer, leaf, boolean, Scorers, end, more, leaf_matches, matches}
use Rattle.tree_weight.specs.State.{State, words_of, leaf_size, size_of, sizes_of, sizes_of_first}

-- from the bound up to the document where a node stands, that document is the next one that it matches
abbrev pub Cache : (ℕ → Bool) → ℕ → ℕ → Type 0
Cache P b cached = (t : ℕ) → b ≤ t → t < cached → First P t (cached - 1)

-- the cursor of a run has passed only documents below the bound
pub record RunAt (document : ℕ → ℕ) (number cursor b : ℕ) : Type 0 where
  pub within : cursor ≤ number
  pub passed : (i : ℕ) → i < cursor → document i < b

-- where a field's norm bytes begin, + 1; 0 without norms
unfoldable pub norms_word : Index → ℕ → ℕ
norms_word ix f = cond (has_norms ix f) (suc (count_below f (has_norms ix) * ix.max_doc)) 0

-- the words of a term, or of a phrase's term, which has the same bound as its phrase
pub record TermIs (ix : Index) (kind l : ℕ) (s : State) (b : ℕ) : Type 0 where
  pub kind-is : s.kind ≡ kind
  pub size_is : s.size ≡ node_state_words
  pub first-is : s.first ≡ leaf_first ix l
  pub number_is : s.number ≡ leaf_number ix l
  pub field_is : s.field ≡ leaf_field ix l
  pub norms-is : s.norms ≡ norms_word ix (leaf_field ix l)
  pub run : RunAt (leaf_document ix l) (leaf_number ix l) s.cursor b

-- the words of a range, whose documents stand in the range buffer as a bitmap
pub record RangeIs (ix : Index) (ranges : List ℕ) (r : NumericRange) (s : State) : Type 0 where
  pub kind-is : s.kind ≡ 4
  pub size_is : s.size ≡ node_state_words
  pub number_is : s.number ≡ bitmap_words ix.max_doc
  pub there : s.first + s.number ≤ length ranges
  pub bits : Bitmap (leaf_matches ix (range r)) ranges s.first s.number

-- the records of a phrase's terms
unfoldable pub TermsAre : Index → List PhraseTerm → List ℕ → ℕ → Type 0
TermsAre ix [] w b = w ≡ []
TermsAre ix (t ∷ ts) w b =
    (s : State) × (w' : List ℕ) × (w ≡ words_of s ++ w') × TermIs ix 9 t.leaf s b × (s.offset ≡ t.offset)
    × TermsAre ix ts w' b

-- the words of a phrase, w those of its terms
pub record PhraseIs (ix : Index) (f : ℕ) (ts : List PhraseTerm) (s : State) (w : List ℕ) (b : ℕ) : Type 0 where
  pub kind-is : s.kind ≡ 2
  pub size_is : s.size ≡ leaf_size (phrase f ts)
  pub field_is : s.field ≡ f
  pub norms-is : s.norms ≡ norms_word ix f
  pub terms : TermsAre ix ts w b
  -- the frequency that was last worked out
  pub worked-out : (d : ℕ) → s.frequency_of ≡ suc d → s.frequency ≡ phrase_frequency ix ts d

-- the words of a leaf, w those after its record, but for its cache and its scoring
unfoldable pub LeafIs : Index → List ℕ → Leaf → State → List ℕ → ℕ → Type 0
LeafIs ix ranges nothing s w b =
    (s.kind ≡ 0) × (s.size ≡ node_state_words) × (s.cached ≡ suc no_more_docs) × (w ≡ [])
LeafIs ix ranges (term l) s w b = TermIs ix 1 l s b × (w ≡ [])
LeafIs ix ranges (phrase f ts) s w b = PhraseIs ix f ts s w b
LeafIs ix ranges (range r) s w b = RangeIs ix ranges r s × (w ≡ [])
LeafIs ix ranges everything s w b = (s.kind ≡ 5) × (s.size ≡ node_state_words) × (w ≡ [])

-- a bound on every score: an idf of at most 64 (summed over 32 terms it is below 2^11) times a boost of at most 2^16
abbrev pub largest_score : ℕ
largest_score = 2 ^ 29

-- a score in words: a binary32 value from 0 to that bound
pub record FloatIs (x : Float) (bits : ℕ) : Type 0 where
  pub held : T (fits binary32 x)
  pub small : AtMost largest_score x
  pub bits_are : bits ≡ to_bits binary32 x

unfoldable pub ScoringIs : Scoring → State → Type 0
ScoringIs (constant c) s = (s.constant ≡ 1) × FloatIs c s.weight
ScoringIs (weighted w) s = (s.constant ≡ 0) × FloatIs w s.weight

-- a Boolean's own score, where it is constant
unfoldable pub KeptIs : Option Float → State → Type 0
KeptIs none s = s.constant ≡ 0
KeptIs (some c) s = (s.constant ≡ 1) × FloatIs c s.weight

unfoldable pub JoiningIs : Joining → Scorers → State → Type 0
JoiningIs (one_more n) rs s = (s.afterwards ≡ 0) × (s.group_at ≡ sizes_of_first n rs)
JoiningIs afterwards rs s = s.afterwards ≡ 1

-- the record of a Boolean, but for its cache
pub record BooleanIs (c : Option Float) (j : Joining) (need : ℕ) (rs os ps : Scorers) (s : State) : Type 0 where
  pub kind-is : s.kind ≡ 3
  pub size_is : s.size ≡ size_of (boolean c j need rs os ps)
  pub need-is : s.need ≡ need
  pub required-end : s.required_end ≡ sizes_of rs
  pub optional-end : s.optional_end ≡ sizes_of rs + sizes_of os
  pub kept : KeptIs c s
  pub joining : JoiningIs j rs s

unfoldable mutual
  -- y are the words of the scorer's part, asked for documents up to the bound b, with so many levels left: its children
  -- can still be asked at the document where it stands
  pub Ok : Index → List ℕ → Scorer → ℕ → ℕ → List ℕ → ℕ → Type 0
  Ok ix ranges (leaf l sc) depth scores y b =
      (s : State) × (w : List ℕ) × (y ≡ words_of s ++ w) × (s.scores ≡ scores)
      × LeafIs ix ranges l s w (max b (s.cached - 1)) × ScoringIs sc s
      × Cache (matches ix (leaf l sc)) b s.cached
  Ok ix ranges (boolean c j need rs os ps) depth scores y b =
      (s : State) × (x : List ℕ) × (v : List ℕ) × (z : List ℕ) × (y ≡ words_of s ++ (x ++ (v ++ z)))
      × (s.scores ≡ scores) × (0 < depth) × BooleanIs c j need rs os ps s
      × Cache (matches ix (boolean c j need rs os ps)) b s.cached
      × Oks ix ranges rs (depth - 1) x (max b (s.cached - 1))
      × Oks ix ranges os (depth - 1) v (max b (s.cached - 1))
      × Oks ix ranges ps (depth - 1) z (max b (s.cached - 1))

  -- the parts of some scorers, one after the other
  pub Oks : Index → List ℕ → Scorers → ℕ → List ℕ → ℕ → Type 0
  Oks ix ranges end depth w b = w ≡ []
  Oks ix ranges (more f s ss) depth w b =
      (y : List ℕ) × (z : List ℕ) × (w ≡ y ++ z) × Ok ix ranges s depth (cond f 1 0) y b
      × Oks ix ranges ss depth z b
