-- What a leaf of a scorer tree asks and answers. Assumes nothing: these are definitions.
use Rattle.std.specs.Prelude.{◌≡◌, Bool, true, false, List, ◌++◌, ℕ, ◌≤◌, ◌<◌}
use Rattle.meaning.specs.Limits.{no_more_docs}
use Rattle.meaning.specs.Lent.{Index}
use Rattle.meaning.specs.First.{First}
use Rattle.tree_weight.specs.ScorerTree.{Leaf, leaf_matches}
use Rattle.tree_weight.specs.State.{State, words_of}
use Rattle.scorer_leaf.specs.declared.LeafReader.{LeafReader}
use Rattle.tree_weight.specs.Held.{LeafIs}
use Rattle.tree_weight.specs.Sound.{Lends, LeafSound}

-- what is lent beside the words: N, the postings, the positions and the range buffer
pub record Lists : Type 0 where
  pub documents : ℕ
  pub postings : List ℕ
  pub positions : List ℕ
  pub ranges : List ℕ

abbrev pub lists : ℕ → List ℕ → List ℕ → List ℕ → Lists
lists n ps qs rs = record { documents = n; postings = ps; positions = qs; ranges = rs }

-- what a reader has
abbrev pub lists_of : LeafReader → Lists
lists_of r = lists r.max_doc r.postings.now r.positions.now r.ranges.now

-- so many places are there in both phrase buffers
pub record RoomIn (places starts other_starts : ℕ) : Type 0 where
  pub in-starts : places ≤ starts
  pub in-other : places ≤ other_starts

-- a leaf that must be moved, s its record and w the words behind it
pub record LeafHeld (E : Lists) (ix : Index) (places : ℕ) (l : Leaf) (s : State) (w states : List ℕ)
    (target : ℕ) : Type 0 where
  pub lends : Lends ix E.documents E.postings E.positions
  pub sound : LeafSound ix places l
  pub words : states ≡ words_of s ++ w
  pub due : s.cached ≤ target
  pub is : LeafIs ix E.ranges l s w target

-- the words of a record that a move leaves as they are
pub record SeekKept (s s' : State) : Type 0 where
  pub cached : s'.cached ≡ s.cached
  pub constant : s'.constant ≡ s.constant
  pub weight : s'.weight ≡ s.weight
  pub scores : s'.scores ≡ s.scores

-- the leaf after the move to a document, which its cursors have not passed
pub record LeafMoved (E : Lists) (ix : Index) (l : Leaf) (s : State) (states : List ℕ) (r : ℕ) : Type 0 where
  pub state : State
  pub behind : List ℕ
  pub words : states ≡ words_of state ++ behind
  pub kept : SeekKept s state
  pub is : LeafIs ix E.ranges l state behind r

abbrev pub SeekPre : Lists → ℕ → ℕ → List ℕ → ℕ → Type 0
SeekPre E starts other_starts states target =
    (target ≤ no_more_docs)
    × ((ix : Index) × (places : ℕ) × (l : Leaf) × (s : State) × (w : List ℕ)
    × RoomIn places starts other_starts × LeafHeld E ix places l s w states target)

abbrev pub SeekPost : Lists → List ℕ → ℕ → ℕ → List ℕ → Type 0
SeekPost E states target r states' =
    (ix : Index) (places : ℕ) (l : Leaf) (s : State) (w : List ℕ) → LeafHeld E ix places l s w states target
    → First (leaf_matches ix l) target r × LeafMoved E ix l s states' r

-- r approximates P's next document from the target on, as in Lucene's two-phase iterators: P takes none before r, and r
-- itself where the pass is still at its start
pub record Approximates (P : ℕ → Bool) (start target r : ℕ) : Type 0 where
  pub from : target ≤ r
  pub top : r ≤ no_more_docs
  pub before : (d : ℕ) → target ≤ d → d < r → P d ≡ false
  pub hit : r ≡ start → r < no_more_docs → P r ≡ true
