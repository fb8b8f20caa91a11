-- What is read of a node's record, and of the norm bytes. Assumes nothing: these are definitions.
use Rattle.std.specs.Prelude.{◌≡◌, cond, not, T, Option, Some, None, Float, List, ℕ, ◌+◌, ◌-◌, ◌*◌, ◌≤◌, ◌<◌, pos, eqb, length, get_or}
use Rattle.std.specs.Float.{nan, binary32}
use Rattle.std.specs.Float.Ieee.{nan_bits, of_bits, of_int}
use Rattle.meaning.specs.Bm25.{bm25}
use Rattle.meaning.specs.Limits.{max_fields, largest_frequency}
use Rattle.tree_weight.specs.declared.layout.TheConstants.{FIRST, NUMBER, CURSOR, FIELD, CONSTANT, WEIGHT, NORMS}
use Rattle.score_leaf.specs.declared.ScoreNode.{ScoreNode}
use Rattle.sim.specs.declared.bm25.TheConstants.{INVERSES}

-- where a field's norm bytes begin, by its word: one more than that, or 0 where it has none
abbrev pub first_byte : ℕ → Option ℕ
first_byte word = cond (eqb word 0) None (Some (word - 1))

-- the words of the record that the score looks at
pub record ScoreNodeIs (states : List ℕ) (n : ScoreNode) : Type 0 where
  pub first-is : n.first ≡ get_or states FIRST 0
  pub number_is : n.number ≡ get_or states NUMBER 0
  pub cursor-is : n.cursor ≡ get_or states CURSOR 0
  pub field_is : n.field ≡ get_or states FIELD 0
  pub constant-is : n.constant ≡ get_or states CONSTANT 0
  pub weight_is : n.weight ≡ get_or states WEIGHT 0
  pub norms-is : n.norms ≡ first_byte (get_or states NORMS 0)

-- the score of every document, where the two words say one
abbrev pub constant_score : ScoreNode → Option Float
constant_score n = cond (eqb n.constant 1) (Some (of_bits binary32 n.weight)) None

-- a document's norm byte, where the field's bytes begin at a place; 1 without norms
unfoldable pub byte_at : List ℕ → Option ℕ → ℕ → ℕ
byte_at norms (Some first) doc = get_or norms (first + doc) 0
byte_at norms None doc = 1

-- each is a byte
abbrev pub Bytes : List ℕ → Type 0
Bytes norms = (i : ℕ) → get_or norms i 0 < 256

-- what `weighted` asks
pub record Weighs (n : ScoreNode) (norms : List ℕ) (table : List Float) (doc frequency : ℕ) : Type 0 where
  pub frequency-few : frequency ≤ largest_frequency
  pub number : T (not (nan_bits binary32 n.weight))
  pub field-few : n.field ≤ max_fields
  pub byte-there : (first : ℕ) → n.norms ≡ Some first → first + doc < length norms
  pub inverse-there : Bytes norms → INVERSES * n.field + byte_at norms n.norms doc < length table

-- and what it answers
abbrev pub weighted_score : ScoreNode → List ℕ → List Float → ℕ → ℕ → Float
weighted_score n norms table doc frequency =
    bm25 (of_bits binary32 n.weight) (of_int binary32 (pos frequency))
    (get_or table (INVERSES * n.field + byte_at norms n.norms doc) nan)
