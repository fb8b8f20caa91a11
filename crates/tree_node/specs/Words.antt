-- What is read of a record among a node's words. Assumes nothing: these are definitions.
use Rattle.std.specs.Prelude.{◌≡◌, List, ℕ, ◌+◌, ◌≤◌, eqb, length, get_or}
use Rattle.meaning.specs.Limits.{node_state_words}
use Rattle.tree_weight.specs.declared.layout.TheConstants.{SIZE, CACHED, NEED, REQUIRED_END, OPTIONAL_END, AFTERWARDS, GROUP_AT, SCORES}
use Rattle.tree_node.specs.Kinds.{node_kind}
use Rattle.tree_node.specs.declared.Child.{Child}
use Rattle.tree_node.specs.declared.Boolean.{Boolean}

-- a child's part is there
pub record ChildThere (kids : List ℕ) (at : ℕ) : Type 0 where
  pub long : node_state_words ≤ get_or kids (at + SIZE) 0
  pub fits : at + get_or kids (at + SIZE) 0 ≤ length kids

-- what a child's record says
pub record ChildRead (kids : List ℕ) (at : ℕ) (c : Child) : Type 0 where
  pub kind-is : c.kind ≡ node_kind (get_or kids at 0)
  pub end_is : c.end ≡ at + get_or kids (at + SIZE) 0
  pub cached-is : c.cached ≡ get_or kids (at + CACHED) 0
  pub scores-is : c.scores ≡ eqb (get_or kids (at + SCORES) 0) 1

-- what a Boolean's record says
pub record BooleanRead (states : List ℕ) (n : Boolean) : Type 0 where
  pub need-is : n.need ≡ get_or states NEED 0
  pub required-end : n.required_end ≡ get_or states REQUIRED_END 0
  pub optional-end : n.optional_end ≡ get_or states OPTIONAL_END 0
  pub afterwards-is : n.afterwards ≡ eqb (get_or states AFTERWARDS 0) 1
  pub group_at : n.group_at ≡ get_or states GROUP_AT 0
