-- The walk over the live documents that a scorer matches. Assumes nothing: these are definitions.
use Rattle.std.specs.Prelude.{◌≡◌, Bool, ◌&&◌, List, map, ℕ, ◌≤◌, ltb, length, Float}
use Rattle.std.specs.Float.{binary32}
use Rattle.std.specs.Float.Ieee.{to_bits}
use Rattle.meaning.specs.Below.{list_below}
use Rattle.meaning.specs.Limits.{no_more_docs}
use Rattle.meaning.specs.Lent.{Index}
use Rattle.meaning.specs.Live.{is_live}
use Rattle.meaning.specs.First.{First}
use Rattle.meaning.specs.FullList.{ScoreDoc}
use Rattle.meaning.specs.Pages.{PageOf, page}
use Rattle.meaning.specs.Entries.{written}
use Rattle.tree_weight.specs.ScorerTree.{Scorer, matches, scorer_score}
use Rattle.tree_weight.specs.Held.{Ok}
use Rattle.tree_weight.specs.Sound.{Lends}
use Rattle.scorer.specs.Calls.{Lists, RoomIn, NodeHeld}
use Rattle.score_leaf.specs.Asked.{Scorable}
use Rattle.walk.specs.declared.Listed.{Listed}

-- a live document of the index that the scorer matches
unfoldable pub live_match : Index → Scorer → ℕ → Bool
live_match ix s d = ltb d ix.max_doc && (is_live ix d && matches ix s d)

-- a document with its score
abbrev pub scored : Index → Scorer → ℕ → ScoreDoc
scored ix s d = record { doc = d; score = scorer_score ix s d }

-- the live documents that the scorer matches, ascending, each with its score
unfoldable pub live_scored : Index → Scorer → List ScoreDoc
live_scored ix s = map (scored ix s) (list_below ix.max_doc (λ d. is_live ix d && matches ix s d))

-- some index and tree that the words hold, with these live words
abbrev pub NextPre : Lists → List ℕ → ℕ → ℕ → List ℕ → ℕ → ℕ → Type 0
NextPre E live starts other_starts states from depth =
    (from ≤ no_more_docs) × ((ix : Index) × (places : ℕ) × (s : Scorer) × (scores : ℕ)
    × RoomIn places starts other_starts × (ix.live ≡ live)
    × NodeHeld E ix places s depth scores states from)

-- for each of them, the first live match; the words can be asked from there on
abbrev pub NextPost : Lists → List ℕ → List ℕ → ℕ → ℕ → ℕ → List ℕ → Type 0
NextPost E live states from depth r states' =
    (ix : Index) (places : ℕ) (s : Scorer) (scores : ℕ) → ix.live ≡ live
    → NodeHeld E ix places s depth scores states from → First (live_match ix s) from r
    × Ok ix E.ranges s depth scores states' r

-- what a page asks: a tree whose scores can be worked out, with these norms and live words
pub record PageHeld (E : Lists) (norms live : List ℕ) (table : List Float) (ix : Index) (places : ℕ)
    (s : Scorer) (depth scores : ℕ) (states : List ℕ) (from : ℕ) : Type 0 where
  pub lends : Lends ix E.documents E.postings E.positions
  pub norms-are : ix.norms ≡ norms
  pub live-are : ix.live ≡ live
  pub scorable : Scorable ix table places s
  pub ok : Ok ix E.ranges s depth scores states from

-- outputs of equal length, as Page has them; phrase buffers of so many places
abbrev pub ListPre : Lists → List ℕ → List ℕ → List Float → ℕ → List ℕ → ℕ → ℕ → List ℕ → List ℕ → Type 0
ListPre E norms live table places states from depth docs bits =
    (from ≤ no_more_docs) × (length docs ≡ length bits)
    × ((ix : Index) × (s : Scorer) × (scores : ℕ)
    × PageHeld E norms live table ix places s depth scores states from)

-- the outputs afterwards, and the answer, are those of the page
pub record PageIs (p : PageOf) (docs bits : List ℕ) (r : Listed) (docs' bits' : List ℕ) : Type 0 where
  pub given_is : r.given ≡ length p.given
  pub next-is : r.next ≡ p.next
  pub documents-are : docs' ≡ written (map (λ h. h.doc) p.given) docs
  pub scores-are : bits' ≡ written (map (λ h. to_bits binary32 h.score) p.given) bits

abbrev pub ListPost : Lists → List ℕ → List ℕ → List Float → ℕ → List ℕ → ℕ → ℕ → List ℕ → List ℕ → Listed
    → List ℕ → List ℕ → List ℕ → Type 0
ListPost E norms live table places states from depth docs bits r states' docs' bits' =
    (ix : Index) (s : Scorer) (scores : ℕ) → PageHeld E norms live table ix places s depth scores states from
    → PageIs (page from (length docs) (live_scored ix s)) docs bits r docs' bits'
    × Ok ix E.ranges s depth scores states' r.next
