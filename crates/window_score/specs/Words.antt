-- What is read of a node's record. Assumes nothing: these are definitions.
use Rattle.std.specs.Prelude.{◌≡◌, cond, ◌&&◌, List, ℕ, ◌+◌, ◌*◌, get_or}
use Rattle.tree_weight.specs.declared.layout.TheConstants.{WINDOW_LOW, WINDOW_HIGH}
use Rattle.bits.specs.Bit.{bit}
use Rattle.window_words.specs.Windowed.{two_words}
use Rattle.window_leaf.specs.declared.phrases.Planes.{Planes}

-- the frequency that two planes have at a place
abbrev pub planed_at : Planes → ℕ → ℕ
planed_at planes p = cond (bit p planes.ones) 1 0 + 2 * cond (bit p planes.twos) 1 0

abbrev pub PlanedIs : Planes → ℕ → ℕ → Type 0
PlanedIs planes p r = r ≡ planed_at planes p

-- of an optional child of which some are needed: the documents that its record has, of those that are wanted; the words
-- stay
pub record StoredAre (states : List ℕ) (want r : ℕ) (states' : List ℕ) : Type 0 where
  pub bits : (p : ℕ) → bit p r ≡ (bit p want && bit p
      (two_words (get_or states WINDOW_LOW 0) (get_or states WINDOW_HIGH 0)))
  pub kept : states' ≡ states
