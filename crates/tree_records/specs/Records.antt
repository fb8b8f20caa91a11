-- Node states as records, and the words of records. Assumes nothing: these are definitions.
use Rattle.std.specs.Prelude.{List, [], ◌∷◌, ◌++◌, ℕ, min, get_or}
use Rattle.meaning.specs.Limits.{max_records}
use Rattle.tree_weight.specs.State.{words_of}
use Rattle.tree_words.specs.declared.state.NodeState.{NodeState}
use Rattle.tree_weight.specs.declared.layout.TheConstants.{KIND, SIZE, CACHED, NEED, REQUIRED_END, OPTIONAL_END, FIRST, NUMBER, CURSOR, OFFSET, FIELD, CONSTANT, WEIGHT, AFTERWARDS, GROUP_AT, SCORES, FREQUENCY_OF, FREQUENCY, NORMS, WINDOW_FIRST, WINDOW_LOW, WINDOW_HIGH, WINDOW_NEXT, ONES_LOW, ONES_HIGH, TWOS_LOW, TWOS_HIGH, SPARE1, SPARE2, SPARE3, SPARE4, SPARE5}
pub use Rattle.tree_words.specs.Words.{state_of}

-- the words of records, one record after the other
unfoldable pub record_words : List NodeState → List ℕ
record_words [] = []
record_words (s ∷ ss) = words_of (state_of s) ++ record_words ss

-- the record of the first words
abbrev pub node_from : List ℕ → NodeState
node_from w =
    record {
      kind = get_or w KIND 0;
      size = get_or w SIZE 0;
      cached = get_or w CACHED 0;
      need = get_or w NEED 0;
      required_end = get_or w REQUIRED_END 0;
      optional_end = get_or w OPTIONAL_END 0;
      first = get_or w FIRST 0;
      number = get_or w NUMBER 0;
      cursor = get_or w CURSOR 0;
      offset = get_or w OFFSET 0;
      field = get_or w FIELD 0;
      constant = get_or w CONSTANT 0;
      weight = get_or w WEIGHT 0;
      afterwards = get_or w AFTERWARDS 0;
      group_at = get_or w GROUP_AT 0;
      scores = get_or w SCORES 0;
      frequency_of = get_or w FREQUENCY_OF 0;
      frequency = get_or w FREQUENCY 0;
      norms = get_or w NORMS 0;
      window_first = get_or w WINDOW_FIRST 0;
      window_low = get_or w WINDOW_LOW 0;
      window_high = get_or w WINDOW_HIGH 0;
      window_next = get_or w WINDOW_NEXT 0;
      ones_low = get_or w ONES_LOW 0;
      ones_high = get_or w ONES_HIGH 0;
      twos_low = get_or w TWOS_LOW 0;
      twos_high = get_or w TWOS_HIGH 0;
      spare1 = get_or w SPARE1 0;
      spare2 = get_or w SPARE2 0;
      spare3 = get_or w SPARE3 0;
      spare4 = get_or w SPARE4 0;
      spare5 = get_or w SPARE5 0;
    }

-- how many of some records a call can need: an order has so many at most
abbrev pub held : ℕ → ℕ
held nodes = min nodes max_records
