-- The lengths of a call's work buffers, what a call leaves of them, and the words of records in their place.
-- Assumes nothing: these are definitions.
use Rattle.std.specs.Prelude.{◌≡◌, List, ℕ, ◌*◌, ◌++◌, length, take, drop, ℤ}
use Rattle.meaning.specs.Limits.{node_state_words}
use Rattle.meaning.specs.CallRefusals.{Work}
use Rattle.meaning.specs.Entries.{Kept}
use Rattle.check_order.specs.WorkOf.{work}
use Rattle.tree_words.specs.declared.state.NodeState.{NodeState}
use Rattle.tree_records.specs.Records.{record_words, held}
use Rattle.searcher.specs.declared.buffers.Buffers.{Buffers}

abbrev pub lengths_of : {S : Type 0} → Buffers S → Work
lengths_of b = work (length b.states.now) (length b.starts.now) (length b.other_starts.now) (length b.ranges.now)

-- the same in words, where the node states are records
abbrev pub records_room : Buffers NodeState → Work
records_room b =
    work (node_state_words * length b.states.now) (length b.starts.now) (length b.other_starts.now)
    (length b.ranges.now)

-- a refused call leaves each buffer as it was
pub record KeptBuffers {S : Type 0} (refusal : ℕ) (b b' : Buffers S) : Type 0 where
  pub states : Kept refusal b.states.now b'.states.now
  pub starts : Kept refusal b.starts.now b'.starts.now
  pub other_starts : Kept refusal b.other_starts.now b'.other_starts.now
  pub ranges : Kept refusal b.ranges.now b'.ranges.now

-- the same slices, as long as before
pub record SameWorkBuffers {S : Type 0} (b b' : Buffers S) : Type 0 where
  pub lengths : lengths_of b' ≡ lengths_of b
  pub states : b'.states.ghost_name ≡ b.states.ghost_name
  pub starts : b'.starts.ghost_name ≡ b.starts.ghost_name
  pub other_starts : b'.other_starts.ghost_name ≡ b.other_starts.ghost_name
  pub ranges : b'.ranges.ghost_name ≡ b.ranges.ghost_name

-- what the four slices hold
pub record Holds (states : List ℕ) (starts other_starts : List ℤ) (ranges : List ℕ) (b : Buffers ℕ) : Type 0 where
  pub states_are : b.states.now ≡ states
  pub starts_are : b.starts.now ≡ starts
  pub other_starts_are : b.other_starts.now ≡ other_starts
  pub ranges_are : b.ranges.now ≡ ranges

-- the words of as many states as a call can need, in the place of the records
abbrev pub WordsLent : List ℕ → Buffers NodeState → Buffers ℕ → Type 0
WordsLent words b w =
    Holds (take (node_state_words * held (length b.states.now)) words) b.starts.now b.other_starts.now b.ranges.now w

-- the first n records are those of the words, and the others as they were
abbrev pub Packed : List NodeState → List NodeState → List ℕ → ℕ → Type 0
Packed nodes nodes' words n =
    (record_words (take n nodes') ≡ take (node_state_words * n) words) × (drop n nodes' ≡ drop n nodes)

-- the records after a call on their words that used n of them, and the other buffers as the call left them
pub record ReadBack (words : List ℕ) (b b' : Buffers NodeState) (w' : Buffers ℕ) (n : ℕ) : Type 0 where
  pub packed : Packed b.states.now b'.states.now
      (w'.states.now ++ drop (node_state_words * held (length b.states.now)) words) n
  pub starts_back : b'.starts.now ≡ w'.starts.now
  pub other_starts_back : b'.other_starts.now ≡ w'.other_starts.now
  pub ranges_back : b'.ranges.now ≡ w'.ranges.now
