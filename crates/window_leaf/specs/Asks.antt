-- What a node is asked of a window, and what it answers. Assumes nothing: these are definitions. The tree and the index
-- stand in no argument: some must fit the words at entry, and for all that fit them the answer is right.
use Rattle.std.specs.Prelude.{◌≡◌, Bool, true, ◌&&◌, false, List, ℕ, ◌+◌, ◌≤◌, ◌<◌, get_or}
use Rattle.meaning.specs.Limits.{no_more_docs, max_records}
use Rattle.meaning.specs.Lent.{Index}
use Rattle.bits.specs.Bit.{bit}
use Rattle.tree_weight.specs.ScorerTree.{Scorer, matches}
use Rattle.tree_weight.specs.Sound.{Lends, Sound, nodes}
use Rattle.tree_weight.specs.declared.layout.TheConstants.{KIND, WINDOW_NEXT}
use Rattle.scorer_leaf.specs.Calls.{Lists, lists, RoomIn}
use Rattle.window_words.specs.Windowed.{Places, nowhere, places_of, Windowed}

-- of the asked places of a window, those whose document P takes, and a document before which P takes nothing after the
-- window
pub record Answers (P : ℕ → Bool) (base : ℕ) (D : Places) (r next : ℕ) : Type 0 where
  pub bits : (p : ℕ) → p < 64 → bit p r ≡ (D p && P (base + p))
  pub gap : (d : ℕ) → base + 64 ≤ d → d < next → P d ≡ false
  pub top : next ≤ no_more_docs

abbrev pub everywhere : Places
everywhere p = true

-- the wanted documents of a window are there
abbrev pub Wanted : ℕ → ℕ → ℕ → Type 0
Wanted n base want = (p : ℕ) → p < 64 → bit p want ≡ true → base + p < n

-- the index and the tree of a node's part, not asked yet of the window at base
pub record NodeWindowed (E : Lists) (ix : Index) (places : ℕ) (s : Scorer) (depth scores : ℕ) (states : List ℕ)
    (base : ℕ) : Type 0 where
  pub lends : Lends ix E.documents E.postings E.positions
  pub sound : Sound ix places s
  pub few : nodes s ≤ max_records
  pub held : Windowed ix E.ranges s depth scores states base base nowhere

-- what it answers where the places D are asked, in words that are states' then
abbrev pub NodeAnswers : Lists → List ℕ → ℕ → Places → ℕ → ℕ → List ℕ → Type 0
NodeAnswers E states base D depth r states' =
    (ix : Index) (places : ℕ) (s : Scorer) (scores : ℕ) → NodeWindowed E ix places s depth scores states base
    → Answers (matches ix s) base D r (get_or states' WINDOW_NEXT 0)
    × Windowed ix E.ranges s depth scores states' (base + 64) base D

-- what is lent, of an index of n documents
abbrev pub lent_at : Lists → ℕ → Lists
lent_at E n = lists n E.postings E.positions E.ranges

abbrev pub BitsPre : Lists → ℕ → ℕ → List ℕ → ℕ → ℕ → ℕ → Type 0
BitsPre E starts other_starts states base want depth =
    (base + 64 ≤ no_more_docs)
    × ((n : ℕ) × (ix : Index) × (places : ℕ) × (s : Scorer) × (scores : ℕ) × Wanted n base want
    × RoomIn places starts other_starts × NodeWindowed (lent_at E n) ix places s depth scores states base)

abbrev pub BitsPost : Lists → ℕ → ℕ → List ℕ → ℕ → ℕ → ℕ → ℕ → List ℕ → Type 0
BitsPost E starts other_starts states base want depth r states' =
    (n : ℕ) → Wanted n base want → NodeAnswers (lent_at E n) states base (places_of want) depth r states'

-- a node that is a term: it asks nothing of what is lent but the postings
abbrev pub TermBitsPre : List ℕ → List ℕ → ℕ → Type 0
TermBitsPre postings states base =
    (base + 64 ≤ no_more_docs) × (get_or states KIND 0 ≡ 1)
    × ((E : Lists) × (E.postings ≡ postings) × (ix : Index) × (places : ℕ) × (s : Scorer) × (depth : ℕ)
    × (scores : ℕ) × NodeWindowed E ix places s depth scores states base)

abbrev pub TermBitsPost : List ℕ → List ℕ → ℕ → ℕ → List ℕ → Type 0
TermBitsPost postings states base r states' =
    (E : Lists) (depth : ℕ) → E.postings ≡ postings → NodeAnswers E states base everywhere depth r states'

-- a node that is a range: it asks nothing of what is lent but the range buffer
abbrev pub RangeBitsPre : List ℕ → List ℕ → ℕ → Type 0
RangeBitsPre ranges states base =
    (base + 64 ≤ no_more_docs) × (get_or states KIND 0 ≡ 4)
    × ((E : Lists) × (E.ranges ≡ ranges) × (ix : Index) × (places : ℕ) × (s : Scorer) × (depth : ℕ)
    × (scores : ℕ) × NodeWindowed E ix places s depth scores states base)

abbrev pub RangeBitsPost : List ℕ → List ℕ → ℕ → ℕ → List ℕ → Type 0
RangeBitsPost ranges states base r states' =
    (E : Lists) (depth : ℕ) → E.ranges ≡ ranges → NodeAnswers E states base everywhere depth r states'

-- a node that is a phrase: it asks nothing of what is lent but the postings and the positions
abbrev pub PhraseBitsPre : List ℕ → List ℕ → ℕ → ℕ → List ℕ → ℕ → Type 0
PhraseBitsPre postings positions starts other_starts states base =
    (base + 64 ≤ no_more_docs) × (get_or states KIND 0 ≡ 2)
    × ((E : Lists) × (E.postings ≡ postings) × (E.positions ≡ positions) × (ix : Index) × (places : ℕ)
    × (s : Scorer) × (depth : ℕ) × (scores : ℕ) × RoomIn places starts other_starts
    × NodeWindowed E ix places s depth scores states base)

abbrev pub PhraseBitsPost : List ℕ → List ℕ → List ℕ → ℕ → ℕ → ℕ → List ℕ → Type 0
PhraseBitsPost postings positions states base want r states' =
    (E : Lists) (depth : ℕ) → E.postings ≡ postings → E.positions ≡ positions
    → NodeAnswers E states base (places_of want) depth r states'
