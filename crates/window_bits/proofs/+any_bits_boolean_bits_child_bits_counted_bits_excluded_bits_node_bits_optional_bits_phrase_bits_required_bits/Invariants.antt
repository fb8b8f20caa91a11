-- Children are one level deeper. What a loop has kept of the wanted documents is what the children before `at` say of
-- them.
use Rattle.std.proofs.Common.{Bool, List, ℕ, ◌+◌, ◌-◌, ◌*◌, length}
use Rattle.meaning.specs.Lent.{Index}
use Rattle.tree_weight.specs.ScorerTree.{Scorers}
use Rattle.scorer_leaf.specs.Calls.{lists}
use Rattle.scorer_leaf.specs.Buffers.{SameBuffers}
use Rattle.window_words.specs.Windowed.{nowhere, places_of, AllWindowed}
use Rattle.window_leaf.specs.Asks.{Wanted}
use Rattle.window_bits.specs.Parts.{asked_before, phrases_only, SomeWindowed, PartsKnown}
use Rattle.window_bits.proofs.Passes.{PassAt}
use Rattle.window_bits.proofs.Optionals.{AnyAt, CountAt}
use Rattle.window_bits.proofs.Prohibited.{ExcludedAt}
use Rattle.window_bits.proofs.+any_bits_boolean_bits_child_bits_counted_bits_excluded_bits_node_bits_optional_bits_phrase_bits_required_bits.Given as goal

abbrev pub decreases-any_bits : goal.decreases-any_bits
decreases-any_bits l = l.depth * 8 + 2

abbrev pub decreases-boolean_bits : goal.decreases-boolean_bits
decreases-boolean_bits l = l.depth * 8 + 5

abbrev pub decreases-child_bits : goal.decreases-child_bits
decreases-child_bits l = l.depth * 8 + 1

abbrev pub decreases-counted_bits : goal.decreases-counted_bits
decreases-counted_bits l = l.depth * 8 + 2

abbrev pub decreases-excluded_bits : goal.decreases-excluded_bits
decreases-excluded_bits l = l.depth * 8 + 2

abbrev pub decreases-node_bits : goal.decreases-node_bits
decreases-node_bits l = l.depth * 8

abbrev pub decreases-optional_bits : goal.decreases-optional_bits
decreases-optional_bits l = l.depth * 8 + 4

abbrev pub decreases-phrase_bits : goal.decreases-phrase_bits
decreases-phrase_bits l = l.depth * 8 + 3

abbrev pub decreases-required_bits : goal.decreases-required_bits
decreases-required_bits l = l.depth * 8 + 2

-- for all that fit the words at entry
abbrev pub PassKept : List ℕ → List ℕ → List ℕ → List ℕ → Bool → ℕ → ℕ → ℕ → List ℕ → ℕ → ℕ → ℕ → Bool → Type 0
PassKept postings positions ranges kids₀ last base want depth kids w next at skip =
    (n : ℕ) (ix : Index) (places : ℕ) (ss : Scorers) → Wanted n base want → PartsKnown (lists n postings positions ranges) ix places ss → SomeWindowed (asked_before last) ix ranges ss depth kids₀ base (places_of want) → PassAt ix ranges depth places last base want ss kids w next at skip

abbrev pub AnyKept : List ℕ → List ℕ → List ℕ → List ℕ → ℕ → ℕ → ℕ → List ℕ → ℕ → ℕ → ℕ → Type 0
AnyKept postings positions ranges kids₀ base want depth kids w next at =
    (n : ℕ) (ix : Index) (places : ℕ) (ss : Scorers) → Wanted n base want → PartsKnown (lists n postings positions ranges) ix places ss → AllWindowed ix ranges ss depth kids₀ base base nowhere → AnyAt ix ranges depth places base want ss kids w next at

abbrev pub CountKept : List ℕ → List ℕ → List ℕ → List ℕ → ℕ → ℕ → ℕ → List ℕ → List ℕ → ℕ → ℕ → Type 0
CountKept postings positions ranges kids₀ base want depth kids planes next at =
    (n : ℕ) (ix : Index) (places : ℕ) (ss : Scorers) → Wanted n base want → PartsKnown (lists n postings positions ranges) ix places ss → AllWindowed ix ranges ss depth kids₀ base base nowhere → CountAt ix ranges depth places base want ss kids planes next at

abbrev pub ExcludedKept : List ℕ → List ℕ → List ℕ → List ℕ → ℕ → ℕ → ℕ → List ℕ → ℕ → ℕ → Type 0
ExcludedKept postings positions ranges kids₀ base want depth kids w at =
    (n : ℕ) (ix : Index) (places : ℕ) (ss : Scorers) → Wanted n base want → PartsKnown (lists n postings positions ranges) ix places ss → AllWindowed ix ranges ss depth kids₀ base base nowhere → ExcludedAt ix ranges depth places base want ss kids w at

abbrev pub invariant-any_bits-loop-at : goal.invariant-any_bits-loop-at
invariant-any_bits-loop-at l = SameBuffers l.initial.buffers l.buffers × AnyKept l.window.reader.postings.now l.window.reader.positions.now l.window.reader.ranges.now l.fn.kids l.window.base l.want l.depth l.kids l.w l.next l.at

abbrev pub decreases-any_bits-loop-at : goal.decreases-any_bits-loop-at
decreases-any_bits-loop-at l = length l.initial.kids - l.at

abbrev pub invariant-counted_bits-loop-at : goal.invariant-counted_bits-loop-at
invariant-counted_bits-loop-at l = SameBuffers l.initial.buffers l.buffers × CountKept l.window.reader.postings.now l.window.reader.positions.now l.window.reader.ranges.now l.fn.kids l.window.base l.want l.depth l.kids l.planes l.next l.at

abbrev pub decreases-counted_bits-loop-at : goal.decreases-counted_bits-loop-at
decreases-counted_bits-loop-at l = length l.initial.kids - l.at

abbrev pub invariant-excluded_bits-loop-at : goal.invariant-excluded_bits-loop-at
invariant-excluded_bits-loop-at l = SameBuffers l.initial.buffers l.buffers × ExcludedKept l.window.reader.postings.now l.window.reader.positions.now l.window.reader.ranges.now l.fn.kids l.window.base l.want l.depth l.kids l.w l.at

abbrev pub decreases-excluded_bits-loop-at : goal.decreases-excluded_bits-loop-at
decreases-excluded_bits-loop-at l = length l.initial.kids - l.at

abbrev pub invariant-required_bits-loop-at : goal.invariant-required_bits-loop-at
invariant-required_bits-loop-at l = SameBuffers l.initial.buffers l.buffers × PassKept l.window.reader.postings.now l.window.reader.positions.now l.window.reader.ranges.now l.fn.kids (phrases_only l.asks) l.window.base l.want l.depth l.kids l.w l.next l.at l.skipped

abbrev pub decreases-required_bits-loop-at : goal.decreases-required_bits-loop-at
decreases-required_bits-loop-at l = length l.initial.kids - l.at
