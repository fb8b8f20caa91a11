-- What the second pass writes, and what it needs to know of the index. Assumes nothing: these are definitions.
use Rattle.std.specs.Prelude.{◌≡◌, Bool, true, false, cond, List, ◌++◌, ℕ, ◌≤◌, length, take, drop, Float}
use Rattle.std.specs.Prelude.{Some, None, Option as Maybe}
use Rattle.std.specs.Float.{binary32}
use Rattle.std.specs.Float.Ieee.{of_bits}
use Rattle.std.proofs.Math.Option.{Option, none, some}
use Rattle.meaning.specs.Limits.{node_state_words}
use Rattle.meaning.specs.Lent.{Index}
use Rattle.meaning.specs.Phrase.{PhraseTerm}
use Rattle.tree_weight.specs.ScorerTree.{Scoring, constant, weighted, Scorer}
use Rattle.tree_weight.specs.State.{State, words_of, size_of}
use Rattle.tree_weight.specs.Held.{TermIs}
use Rattle.tree_words.specs.Words.{zero_state}
use Rattle.window_words.specs.Windowed.{nowhere, Windowed}

-- the part of a scorer, not asked yet, stands in the first r words
pub record Placed (ix : Index) (ranges : List ℕ) (s : Scorer) (depth scores r : ℕ) (words : List ℕ) : Type 0 where
  pub size_is : r ≡ size_of s
  pub within : r ≤ length words
  pub held : Windowed ix ranges s depth scores (take r words) 0 0 nowhere

-- the same score for each document, or BM25 at this weight
abbrev pub scoring_of : Bool → Float → Scoring
scoring_of true x = constant x
scoring_of false x = weighted x

-- a record of a phrase's term stands in the first `node_state_words` words, and the others are as they were
abbrev pub PhraseTermPlaced : Index → PhraseTerm → List ℕ → List ℕ → Type 0
PhraseTermPlaced ix t before after =
    (s : State) × (after ≡ words_of s ++ drop node_state_words before) × TermIs ix 9 t.leaf s 0
    × (s.offset ≡ t.offset)

-- the score that a node has already, if any
abbrev pub kept_of : Bool → Float → Option Float
kept_of true x = some x
kept_of false x = none

-- the score that the code keeps, or 0
abbrev pub kept_score : Maybe Float → Float
kept_score (Some x) = x
kept_score None = of_bits binary32 0

-- a Boolean's record, not asked yet
abbrev pub boolean_state : ℕ → ℕ → ℕ → ℕ → Bool → ℕ → Bool → ℕ → ℕ → State
boolean_state size need required_end optional_end fixed bits after group_at scores =
    record zero_state {
      kind = 3;
      size = size;
      need = need;
      required_end = required_end;
      optional_end = optional_end;
      constant = cond fixed 1 0;
      weight = bits;
      afterwards = cond after 1 0;
      group_at = group_at;
      scores = scores;
    }
