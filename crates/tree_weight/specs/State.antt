-- The layout of a node state: `node_state_words` words for each scorer and each term of a phrase, a node's record first
-- and then its children's parts, one after the other.
-- Assumes nothing: these are definitions.
use Rattle.std.specs.Prelude.{List, [], ◌∷◌, ℕ, zero, suc, ◌+◌, ◌*◌, length}
use Rattle.meaning.specs.Limits.{node_state_words}
use Rattle.tree_weight.specs.ScorerTree.{Leaf, nothing, term, phrase, range, everything, Scorer, leaf, boolean, Scorers, end, more}

pub record State : Type 0 where
  -- 0 nothing, 1 term, 2 phrase, 3 Boolean, 4 range, 5 everything, 9 a term of a phrase
  pub kind : ℕ
  -- the words of the part: the record and its children's parts
  pub size : ℕ
  -- the document where the node stands, + 1; 0 where it has not been positioned
  pub cached : ℕ
  -- Boolean: how many of the optional must match
  pub need : ℕ
  -- Boolean: where, in the words after its record, the required children end, and the optional
  pub required_end : ℕ
  pub optional_end : ℕ
  -- the first posting of the run, how many there are, how many are passed; or the place of the range's bitmap in the
  -- range buffer, and its number of words
  pub first : ℕ
  pub number : ℕ
  pub cursor : ℕ
  -- a phrase's term: its offset
  pub offset : ℕ
  -- a term's or a phrase's field
  pub field : ℕ
  -- 1 where the score is the same for each document; that score, or the weight, as f32 bits
  pub constant : ℕ
  pub weight : ℕ
  -- Boolean: 1 where the group joins after the required sum is narrowed; else where, in the words after its record, it
  -- joins the sum
  pub afterwards : ℕ
  pub group_at : ℕ
  -- 1 where the node is a Must clause
  pub scores : ℕ
  -- a phrase: the document + 1 whose frequency was last worked out, and the frequency
  pub frequency_of : ℕ
  pub frequency : ℕ
  -- a term or a phrase: where its field's norm bytes begin, + 1; 0 without norms
  pub norms : ℕ
  -- asked by windows: the run's first place that is not below the window, the documents of the window as bits, and a
  -- document before which none follows the window
  pub window_first : ℕ
  pub window_low : ℕ
  pub window_high : ℕ
  pub window_next : ℕ
  -- a phrase, asked by windows: the two lower digits of the frequencies, as bits; 3 is 3 or more
  pub ones_low : ℕ
  pub ones_high : ℕ
  pub twos_low : ℕ
  pub twos_high : ℕ
  -- not used
  pub spare1 : ℕ
  pub spare2 : ℕ
  pub spare3 : ℕ
  pub spare4 : ℕ
  pub spare5 : ℕ

-- the record's words, in order
abbrev pub words_of : State → List ℕ
words_of s =
    s.kind ∷ s.size ∷ s.cached ∷ s.need ∷ s.required_end ∷ s.optional_end ∷ s.first ∷ s.number ∷ s.cursor
    ∷ s.offset ∷ s.field ∷ s.constant ∷ s.weight ∷ s.afterwards ∷ s.group_at ∷ s.scores ∷ s.frequency_of
    ∷ s.frequency ∷ s.norms ∷ s.window_first ∷ s.window_low ∷ s.window_high ∷ s.window_next ∷ s.ones_low
    ∷ s.ones_high ∷ s.twos_low ∷ s.twos_high ∷ s.spare1 ∷ s.spare2 ∷ s.spare3 ∷ s.spare4 ∷ s.spare5 ∷ []

-- the words that a scorer takes
unfoldable pub leaf_size : Leaf → ℕ
leaf_size nothing = node_state_words
leaf_size (term l) = node_state_words
leaf_size (phrase f ts) = node_state_words + node_state_words * length ts
leaf_size (range r) = node_state_words
leaf_size everything = node_state_words

unfoldable mutual
  pub size_of : Scorer → ℕ
  size_of (leaf l s) = leaf_size l
  size_of (boolean c j need rs os ps) = node_state_words + (sizes_of rs + (sizes_of os + sizes_of ps))

  pub sizes_of : Scorers → ℕ
  sizes_of end = 0
  sizes_of (more b s ss) = size_of s + sizes_of ss

-- the words of the first n of some scorers
unfoldable pub sizes_of_first : ℕ → Scorers → ℕ
sizes_of_first zero ss = 0
sizes_of_first (suc n) end = 0
sizes_of_first (suc n) (more b s ss) = size_of s + sizes_of_first n ss
