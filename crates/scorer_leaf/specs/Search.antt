-- The cursor of a record that is moved along its run, and the next bit of a bitmap. Assumes nothing: these are
-- definitions.
use Rattle.std.specs.Prelude.{◌≡◌, Bool, false, List, ◌++◌, ℕ, ◌+◌, ◌*◌, ◌≤◌, ◌<◌, length, get_or}
use Rattle.meaning.specs.Limits.{no_more_docs}
use Rattle.meaning.specs.First.{First}
use Rattle.bits.specs.Bit.{Bitmap}
use Rattle.tree_weight.specs.State.{State, words_of}
use Rattle.tree_weight.specs.declared.layout.TheConstants.{FIRST, NUMBER, CURSOR}
use Rattle.run.specs.Run.{document_at, Run}

-- a record with another cursor
abbrev pub cursor_at : State → ℕ → State
cursor_at s u = record s { cursor = u }

-- what a search reads of a record
pub record CursorRead (states : List ℕ) (f n u : ℕ) : Type 0 where
  pub first : f ≡ get_or states FIRST 0
  pub number : n ≡ get_or states NUMBER 0
  pub cursor : u ≡ get_or states CURSOR 0

-- s is the record at the front of the words, its run is in the lent words, and its cursor has passed only documents
-- below the target
pub record SearchHeld (words : List ℕ) (stride : ℕ) (s : State) (w states : List ℕ) (target : ℕ) : Type 0 where
  pub words_are : states ≡ words_of s ++ w
  pub run : Run words stride s.first s.number
  pub small : (i : ℕ) → i < s.number → document_at words stride s.first i < no_more_docs
  pub within : s.cursor ≤ s.number
  pub passed : (i : ℕ) → i < s.cursor → document_at words stride s.first i < target

-- its cursor stands at the first document that is not below the target, which is r
pub record SearchMoved (words : List ℕ) (stride : ℕ) (s : State) (w states : List ℕ) (target r : ℕ) : Type 0 where
  pub cursor : ℕ
  pub words_are : states ≡ words_of (cursor_at s cursor) ++ w
  pub within : cursor ≤ s.number
  pub passed : (i : ℕ) → i < cursor → document_at words stride s.first i < target
  pub hit : cursor < s.number → (r ≡ document_at words stride s.first cursor) × (target ≤ r)
  pub ended : s.number ≤ cursor → r ≡ no_more_docs

abbrev pub SearchPre : List ℕ → ℕ → List ℕ → ℕ → Type 0
SearchPre words stride states target = (s : State) × (w : List ℕ) × SearchHeld words stride s w states target

abbrev pub SearchPost : List ℕ → ℕ → List ℕ → ℕ → ℕ → List ℕ → Type 0
SearchPost words stride states target r states' =
    (s : State) (w : List ℕ) → SearchHeld words stride s w states target
    → SearchMoved words stride s w states' target r

-- r is the first number at or after the target whose bit is set in some words, or NO_MORE_DOCS
abbrev pub FirstSet : List ℕ → ℕ → ℕ → ℕ → ℕ → Type 0
FirstSet words first number target r =
    (P : ℕ → Bool) → Bitmap P words first number → ((d : ℕ) → 32 * number ≤ d → P d ≡ false)
    → target ≤ no_more_docs → First P target r

-- s is the record at the front of the words, and its bitmap is in the lent words
pub record RangeHeld (words : List ℕ) (s : State) (w states : List ℕ) : Type 0 where
  pub words_are : states ≡ words_of s ++ w
  pub there : s.first + s.number ≤ length words
  pub few : 32 * s.number ≤ no_more_docs

abbrev pub SeekRangePre : List ℕ → List ℕ → Type 0
SeekRangePre words states = (s : State) × (w : List ℕ) × RangeHeld words s w states

abbrev pub SeekRangePost : List ℕ → List ℕ → ℕ → ℕ → Type 0
SeekRangePost words states target r =
    (s : State) (w : List ℕ) → RangeHeld words s w states → FirstSet words s.first s.number target r

-- the first document at or after the target, of all that there are
pub record AnyDocument (n target r : ℕ) : Type 0 where
  pub there : target < n → r ≡ target
  pub ended : n ≤ target → r ≡ no_more_docs
