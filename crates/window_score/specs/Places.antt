-- A term and a phrase at a wanted place of a window. Assumes nothing: these are definitions.
use Rattle.std.specs.Prelude.{◌≡◌, not, T, List, ℕ, ◌+◌, ◌-◌, ◌/◌, ◌≤◌, ◌<◌, length, take, drop, Float}
use Rattle.std.specs.Float.Ieee.{is_nan}
use Rattle.meaning.specs.Below.{count_below}
use Rattle.bits.specs.Bit.{bit}
use Rattle.index.specs.declared.postings.TheConstants.{POSTING_WORDS}
use Rattle.index.specs.Runs.{posting_frequency}
use Rattle.score_leaf.specs.declared.ScoreNode.{ScoreNode}
use Rattle.score_leaf.specs.Words.{Bytes, Weighs, weighted_score}
use Rattle.meaning.specs.Limits.{node_state_words}
use Rattle.window_leaf.specs.declared.phrases.Planes.{Planes}
use Rattle.window_leaf.specs.Phrases.{FrequencyAtPre, FrequencyAtPost}
use Rattle.window_score.specs.Words.{planed_at}

-- how many places below one have their bit
abbrev pub rank_of : ℕ → ℕ → ℕ
rank_of w p = count_below p (λ q. bit q w)

-- the score at a place: as many postings of the window stand before the place's as bits below it
abbrev pub term_score_at : ScoreNode → List ℕ → List Float → List ℕ → ℕ → ℕ → ℕ → ℕ → Float
term_score_at n norms table postings first bits base p =
    weighted_score n norms table (base + p) (posting_frequency postings first (rank_of bits p))

-- the posting is there, and has a score
pub record TermPlace (n : ScoreNode) (norms : List ℕ) (table : List Float) (postings : List ℕ)
    (first bits base p : ℕ) : Type 0 where
  pub within : p < 64
  pub few : base + p < 4294967296
  pub there : first + rank_of bits p < length postings / POSTING_WORDS
  pub weighs : Weighs n norms table (base + p) (posting_frequency postings first (rank_of bits p))
  pub number : Bytes norms → T (not (is_nan (term_score_at n norms table postings first bits base p)))

-- the words behind a record
abbrev pub behind : List ℕ → List ℕ
behind states = take (length states - node_state_words) (drop node_state_words states)

-- a phrase's frequency at a place as it is read: that of the planes, and where these say 3 it is worked out
pub record FrequencyRead (postings positions states : List ℕ) (planes : Planes) (base p r : ℕ) : Type 0 where
  pub high : planed_at planes p ≡ 3 → FrequencyAtPost postings positions (behind states) base p r
  pub low : (planed_at planes p ≡ 3 → ⊥) → r ≡ planed_at planes p

-- it may be read, and has a score
pub record PhrasePlace (n : ScoreNode) (norms : List ℕ) (table : List Float)
    (postings positions states : List ℕ) (planes : Planes) (starts other_starts base p : ℕ) : Type 0 where
  pub long : node_state_words ≤ length states
  pub asks : FrequencyAtPre postings positions (behind states) starts other_starts base p
  pub few : base + p < 4294967296
  pub scores : (r : ℕ) → FrequencyRead postings positions states planes base p r
      → Weighs n norms table (base + p) r
      × (Bytes norms → T (not (is_nan (weighted_score n norms table (base + p) r))))
