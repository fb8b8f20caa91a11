-- What the score of a node asks and gives, and of a leaf. Assumes nothing: these are definitions.
use Rattle.std.specs.Prelude.{◌≡◌, true, List, ◌++◌, ℕ, ◌*◌, ◌^◌, ◌≤◌, ◌<◌, get_or, Float}
use Rattle.meaning.specs.Limits.{no_more_docs, max_records}
use Rattle.meaning.specs.Lent.{Index}
use Rattle.meaning.specs.Phrase.{PhraseTerm, phrase_frequency}
use Rattle.ieee754.specs.Nonneg.{AtMost}
use Rattle.tree_weight.specs.ScorerTree.{Leaf, weighted, Scorer, leaf_matches, matches, leaf_score, scorer_score}
use Rattle.tree_weight.specs.State.{State, words_of}
use Rattle.tree_weight.specs.Held.{PhraseIs, LeafIs, FloatIs, Ok, largest_score}
use Rattle.tree_weight.specs.Sound.{Lends, LeafSound, Sound, LeafTable, Tables, nodes}
use Rattle.tree_weight.specs.declared.layout.TheConstants.{KIND}
use Rattle.scorer_leaf.specs.Calls.{SeekKept}
use Rattle.scorer_leaf.specs.Phrases.{PhraseHeld}

-- an accepted index whose N, postings, positions and norms are those that are lent, and a document of it
pub record LentAt (ix : Index) (n : ℕ) (postings positions norms : List ℕ) (doc : ℕ) : Type 0 where
  pub lends : Lends ix n postings positions
  pub norms-are : ix.norms ≡ norms
  pub document : doc < n

-- a tree whose score can be worked out: sound, with its inverses, and of at most 256 nodes
pub record Scorable (ix : Index) (table : List Float) (places : ℕ) (T : Scorer) : Type 0 where
  pub sound : Sound ix places T
  pub tables : Tables ix table T
  pub few : nodes T ≤ max_records

-- the score, and that it is at most 2^29 for each leaf
pub record ScoreIs (ix : Index) (T : Scorer) (doc : ℕ) (r : Float) : Type 0 where
  pub is : r ≡ scorer_score ix T doc
  pub small : AtMost (nodes T * largest_score) r

-- some index, tree and scores word that the words hold, where the tree matches the document
abbrev pub ScorePre : List ℕ → ℕ → List ℕ → List ℕ → List ℕ → List ℕ → List Float → ℕ → ℕ → ℕ → Type 0
ScorePre states n postings positions norms ranges table places doc depth =
    (ix : Index) × (T : Scorer) × (scores : ℕ) × LentAt ix n postings positions norms doc
    × Scorable ix table places T × (matches ix T doc ≡ true) × Ok ix ranges T depth scores states doc

-- for each of them: the score, and the words as good as before
abbrev pub ScorePost : List ℕ → ℕ → List ℕ → List ℕ → List ℕ → List ℕ → List Float → ℕ → ℕ → ℕ → Float → List ℕ → Type 0
ScorePost states n postings positions norms ranges table places doc depth r states' =
    (ix : Index) (T : Scorer) (scores : ℕ) → LentAt ix n postings positions norms doc
    → Scorable ix table places T → matches ix T doc ≡ true → Ok ix ranges T depth scores states doc
    → ScoreIs ix T doc r × Ok ix ranges T depth scores states' doc

-- a leaf that scores by BM25, its words and the document that it matches
pub record LeafAsks (ix : Index) (ranges : List ℕ) (table : List Float) (places : ℕ) (l : Leaf) (w : Float)
    (s : State) (v : List ℕ) (doc : ℕ) : Type 0 where
  pub sound : LeafSound ix places l
  pub tables : LeafTable ix table l (weighted w)
  pub match : leaf_matches ix l doc ≡ true
  pub words : LeafIs ix ranges l s v doc
  pub weight : FloatIs w s.weight

-- a phrase that stands in the document
abbrev pub PhraseFrequencyPre : List ℕ → List ℕ → ℕ → ℕ → List ℕ → ℕ → Type 0
PhraseFrequencyPre postings positions starts other_starts states doc =
    (doc < no_more_docs) × ((ix : Index) × (places : ℕ) × (f : ℕ) × (ts : List PhraseTerm) × (s : State)
    × (w : List ℕ) × (places ≤ starts) × (places ≤ other_starts)
    × PhraseHeld postings positions ix places f ts s w states doc × (0 < phrase_frequency ix ts doc))

-- its frequency there
abbrev pub PhraseFrequencyPost : List ℕ → List ℕ → List ℕ → ℕ → ℕ → List ℕ → Type 0
PhraseFrequencyPost postings positions states doc r states' =
    (ix : Index) (places f : ℕ) (ts : List PhraseTerm) (s : State) (w : List ℕ)
    → PhraseHeld postings positions ix places f ts s w states doc → 0 < phrase_frequency ix ts doc
    → (r ≡ phrase_frequency ix ts doc)
    × ((s' : State) × (w' : List ℕ) × (states' ≡ words_of s' ++ w') × SeekKept s s' × PhraseIs ix f ts s' w' doc)

-- a leaf's words after its score: but for a phrase's terms and frequency they are the same
pub record LeafKept (ix : Index) (ranges : List ℕ) (l : Leaf) (s : State) (doc : ℕ) (states' : List ℕ) : Type 0 where
  pub s' : State
  pub v' : List ℕ
  pub is : states' ≡ words_of s' ++ v'
  pub kept : SeekKept s s'
  pub words : LeafIs ix ranges l s' v' doc

abbrev pub LeafScorePre : List ℕ → ℕ → List ℕ → List ℕ → List ℕ → List Float → ℕ → ℕ → Type 0
LeafScorePre states n postings positions norms table places doc =
    (ix : Index) × (ranges : List ℕ) × (l : Leaf) × (w : Float) × (s : State) × (v : List ℕ)
    × LentAt ix n postings positions norms doc × LeafAsks ix ranges table places l w s v doc
    × (states ≡ words_of s ++ v)

abbrev pub LeafScorePost : List ℕ → ℕ → List ℕ → List ℕ → List ℕ → List Float → ℕ → ℕ → Float → List ℕ → Type 0
LeafScorePost states n postings positions norms table places doc r states' =
    (ix : Index) (ranges : List ℕ) (l : Leaf) (w : Float) (s : State) (v : List ℕ)
    → LentAt ix n postings positions norms doc → LeafAsks ix ranges table places l w s v doc
    → states ≡ words_of s ++ v → (r ≡ leaf_score ix l (weighted w) doc) × AtMost largest_score r
    × LeafKept ix ranges l s doc states'

-- a term's words, whatever else is lent and however deep it stands
abbrev pub TermScorePre : List ℕ → List ℕ → List ℕ → List Float → ℕ → Type 0
TermScorePre states postings norms table doc =
    (get_or states KIND 0 ≡ 1)
    × ((n : ℕ) × (positions : List ℕ) × (ranges : List ℕ) × (places : ℕ) × (depth : ℕ)
    × ScorePre states n postings positions norms ranges table places doc depth)

-- its score; the words stay
abbrev pub TermScorePost : List ℕ → List ℕ → List ℕ → List Float → ℕ → Float → Type 0
TermScorePost states postings norms table doc r =
    (n : ℕ) (positions ranges : List ℕ) (places depth : ℕ)
    → ScorePost states n postings positions norms ranges table places doc depth r states
