-- Words that hold the scorer tree of an order, so that its walk can go on from them.
-- Assumes nothing: these are definitions.
use Rattle.std.specs.Prelude.{List, ℕ, ◌≤◌, length, take}
use Rattle.std.proofs.Math.Option.{none}
use Rattle.meaning.specs.Lent.{Index}
use Rattle.meaning.specs.Bm25.{one}
use Rattle.meaning.specs.Query.{query_tree}
use Rattle.meaning.specs.Limits.{max_depth}
use Rattle.tree_weight.specs.ScorerTree.{Scorer}
use Rattle.tree_weight.specs.Weigh.{weigh}
use Rattle.tree_weight.specs.State.{size_of}
use Rattle.tree_weight.specs.Held.{Ok}

-- the scorer tree of an order
abbrev pub order_tree : Index → List ℕ → Scorer
order_tree ix q = weigh ix (query_tree q) one none

-- the words hold the scorer tree of an order in their first places, asked for documents up to a bound
pub record Standing (ix : Index) (q ranges words : List ℕ) (from : ℕ) : Type 0 where
  pub within : size_of (order_tree ix q) ≤ length words
  pub ok : Ok ix ranges (order_tree ix q) max_depth 0 (take (size_of (order_tree ix q)) words) from
