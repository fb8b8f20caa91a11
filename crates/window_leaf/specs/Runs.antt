-- A record's run or bitmap, asked for a window. Assumes nothing: these are definitions.
use Rattle.std.specs.Prelude.{◌≡◌, Bool, false, List, ◌++◌, ℕ, ◌+◌, ◌*◌, ◌%◌, ◌/◌, ◌≤◌, ◌<◌, length}
use Rattle.meaning.specs.Limits.{no_more_docs}
use Rattle.tree_weight.specs.State.{State, words_of}
use Rattle.scorer_leaf.specs.Search.{SearchHeld}
use Rattle.bits.specs.Bit.{bit, Bitmap}
use Rattle.window.specs.Windows.{in_run, Cursor}

-- a record with what an answer stores: the cursor behind the window, the run's first place in it, its bits, and the
-- document up to which nothing follows
abbrev pub window_at : State → ℕ → ℕ → ℕ → ℕ → State
window_at s cursor first bits next =
    record s {
      cursor = cursor;
      window_first = first;
      window_low = bits % 4294967296;
      window_high = bits / 4294967296;
      window_next = next;
    }

-- an answer that moves no cursor
abbrev pub run_answered : State → ℕ → ℕ → State
run_answered s bits next = window_at s s.cursor s.window_first bits next

abbrev pub PutPre : List ℕ → Type 0
PutPre states = (s : State) × (w : List ℕ) × (states ≡ words_of s ++ w)

abbrev pub PutPost : List ℕ → ℕ → ℕ → List ℕ → Type 0
PutPost states bits next states' =
    (s : State) (w : List ℕ) → states ≡ words_of s ++ w → states' ≡ words_of (run_answered s bits next) ++ w

-- the record's run, whose cursor had passed only documents below the window, has been moved over it
pub record RunMoved (words : List ℕ) (stride : ℕ) (s : State) (w : List ℕ) (base r : ℕ)
    (states' : List ℕ) : Type 0 where
  pub first : ℕ
  pub cursor : ℕ
  pub next : ℕ
  pub words_are : states' ≡ words_of (window_at s cursor first r next) ++ w
  pub at-first : Cursor words stride s.first s.number base first
  pub first-within : first ≤ cursor
  pub behind : Cursor words stride s.first s.number (base + 64) cursor
  pub bits : (p : ℕ) → p < 64 → bit p r ≡ in_run words stride s.first s.number (base + p)
  pub gap : (d : ℕ) → base + 64 ≤ d → d < next → in_run words stride s.first s.number d ≡ false
  pub top : next ≤ no_more_docs

abbrev pub RunBitsPre : List ℕ → ℕ → List ℕ → ℕ → Type 0
RunBitsPre words stride states base =
    (base + 64 ≤ no_more_docs) × ((s : State) × (w : List ℕ) × SearchHeld words stride s w states base)

abbrev pub RunBitsPost : List ℕ → ℕ → List ℕ → ℕ → ℕ → List ℕ → Type 0
RunBitsPost words stride states base r states' =
    (s : State) (w : List ℕ) → SearchHeld words stride s w states base
    → RunMoved words stride s w base r states'

-- the bits of r are 32 numbers of a bitmap, from `at` on; behind its last word there are none
abbrev pub PartOf : List ℕ → ℕ → ℕ → Type 0
PartOf bitmap at r =
    (P : ℕ → Bool) → Bitmap P bitmap 0 (length bitmap) → ((d : ℕ) → 32 * length bitmap ≤ d → P d ≡ false)
    → (p : ℕ) → p < 32 → bit p r ≡ P (at + p)
