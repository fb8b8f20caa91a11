use Rattle.meaning.specs.IndexRefusals.{wrong_leaf}
use Rattle.index.proofs.leaves.wrong_leaf.Goals as goal

pub returns : goal.returns
unfolding wrong_leaf
returns c = rw (c.field_count.ensures, c.end.ensures, c.leaf_at-leaf.ensures)
