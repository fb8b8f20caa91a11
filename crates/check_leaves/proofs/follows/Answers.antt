use Rattle.std.proofs.Common.{arith}
use Rattle.index.specs.IndexOf.{index_of}
use Rattle.index.proofs.Words.{leaf-field}
use Rattle.check_leaves.proofs.follows.Goals as goal

pub field_at-field-requires : goal.field_at-field-requires
field_at-field-requires c = omega (arith, leaf-field (index_of c.args.lent.now) _ _ c.leaf_at-leaf.ensures, c.requires)

pub returns : goal.returns
returns c = rw (c.is_empty.ensures, c.has_positions.ensures, c.field_at-field.ensures, c.leaf_at-leaf.ensures)
