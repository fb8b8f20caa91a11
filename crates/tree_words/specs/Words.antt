-- A node's record as the code has it. Assumes nothing: these are definitions.
use Rattle.tree_weight.specs.State.{State}
use Rattle.tree_words.specs.declared.state.NodeState.{NodeState}

-- a record as the layout of the words has it
abbrev pub state_of : NodeState → State
state_of s =
    record { kind = s.kind; size = s.size; cached = s.cached; need = s.need; required_end = s.required_end; optional_end = s.optional_end; first = s.first; number = s.number; cursor = s.cursor; offset = s.offset; field = s.field; constant = s.constant; weight = s.weight; afterwards = s.afterwards; group_at = s.group_at; scores = s.scores; frequency_of = s.frequency_of; frequency = s.frequency; norms = s.norms; window_first = s.window_first; window_low = s.window_low; window_high = s.window_high; window_next = s.window_next; ones_low = s.ones_low; ones_high = s.ones_high; twos_low = s.twos_low; twos_high = s.twos_high; spare1 = s.spare1; spare2 = s.spare2; spare3 = s.spare3; spare4 = s.spare4; spare5 = s.spare5 }

-- the record whose words are all 0
abbrev pub zeros : NodeState
zeros = record { kind = 0; size = 0; cached = 0; need = 0; required_end = 0; optional_end = 0; first = 0; number = 0; cursor = 0; offset = 0; field = 0; constant = 0; weight = 0; afterwards = 0; group_at = 0; scores = 0; frequency_of = 0; frequency = 0; norms = 0; window_first = 0; window_low = 0; window_high = 0; window_next = 0; ones_low = 0; ones_high = 0; twos_low = 0; twos_high = 0; spare1 = 0; spare2 = 0; spare3 = 0; spare4 = 0; spare5 = 0 }

abbrev pub zero_state : State
zero_state = state_of zeros
