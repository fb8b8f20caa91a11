-- The record whose words are all 0. Assumes nothing.
use mathlib.Core.Path.{◌≡◌}
use Rattle.tree_words.specs.declared.state.NodeState.{NodeState}
use Rattle.tree_words.specs.Words.{zeros}

abbrev pub AllZero : NodeState → Type 0
AllZero s = (s.kind ≡ 0) × ((s.size ≡ 0) × ((s.cached ≡ 0) × ((s.need ≡ 0) × ((s.required_end ≡ 0) × ((s.optional_end ≡ 0) × ((s.first ≡ 0) × ((s.number ≡ 0) × ((s.cursor ≡ 0) × ((s.offset ≡ 0) × ((s.field ≡ 0) × ((s.constant ≡ 0) × ((s.weight ≡ 0) × ((s.afterwards ≡ 0) × ((s.group_at ≡ 0) × ((s.scores ≡ 0) × ((s.frequency_of ≡ 0) × ((s.frequency ≡ 0) × ((s.norms ≡ 0) × ((s.window_first ≡ 0) × ((s.window_low ≡ 0) × ((s.window_high ≡ 0) × ((s.window_next ≡ 0) × ((s.ones_low ≡ 0) × ((s.ones_high ≡ 0) × ((s.twos_low ≡ 0) × ((s.twos_high ≡ 0) × ((s.spare1 ≡ 0) × ((s.spare2 ≡ 0) × ((s.spare3 ≡ 0) × ((s.spare4 ≡ 0) × ((s.spare5 ≡ 0))))))))))))))))))))))))))))))))

pub zeros-are : (s : NodeState) → AllZero s → s ≡ zeros
zeros-are s e =
    let fields : ◌≡◌ {A = NodeState} (record { kind = s.kind; size = s.size; cached = s.cached; need = s.need; required_end = s.required_end; optional_end = s.optional_end; first = s.first; number = s.number; cursor = s.cursor; offset = s.offset; field = s.field; constant = s.constant; weight = s.weight; afterwards = s.afterwards; group_at = s.group_at; scores = s.scores; frequency_of = s.frequency_of; frequency = s.frequency; norms = s.norms; window_first = s.window_first; window_low = s.window_low; window_high = s.window_high; window_next = s.window_next; ones_low = s.ones_low; ones_high = s.ones_high; twos_low = s.twos_low; twos_high = s.twos_high; spare1 = s.spare1; spare2 = s.spare2; spare3 = s.spare3; spare4 = s.spare4; spare5 = s.spare5 }) zeros = cc in fields
