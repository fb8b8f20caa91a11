-- The words of a Boolean whose only child gives its matches and their scores. Assumes nothing: these are definitions.
use Rattle.std.specs.Prelude.{◌≡◌, List, ℕ, ◌+◌, ◌*◌, length, get_or}
use Rattle.meaning.specs.Limits.{node_state_words}
use Rattle.tree_weight.specs.declared.layout.TheConstants.{KIND, NEED, REQUIRED_END, OPTIONAL_END, CONSTANT, SCORES}

-- two records: a Boolean's that is not constant, and its child's, which is not prohibited; it is optional and needed,
-- or required and scores
pub record AloneWords (states : List ℕ) : Type 0 where
  pub long : length states ≡ 2 * node_state_words
  pub kind-is : get_or states KIND 0 ≡ 3
  pub kept : get_or states CONSTANT 0 ≡ 0
  pub optional-end : get_or states OPTIONAL_END 0 ≡ node_state_words
  pub optional : get_or states REQUIRED_END 0 ≡ 0 → get_or states NEED 0 ≡ 1
  pub need-is : (get_or states REQUIRED_END 0 ≡ 0 → ⊥) → get_or states NEED 0 ≡ 0
  pub scores : (get_or states REQUIRED_END 0 ≡ 0 → ⊥) → get_or states (node_state_words + SCORES) 0 ≡ 1
