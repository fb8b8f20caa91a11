use Rattle.std.proofs.Common.{rules}
use Rattle.meaning.specs.IndexRefusals.{wrong4, wrong_leaf}
use Rattle.index.specs.Slices.{leaves_only}
use Rattle.index.proofs.leaves.wrong_leaves.Goals as goal

pub returns : goal.returns
unfolding wrong4
returns c = c.wrong_records.ensures (wrong_leaf (leaves_only c.args.fields.now c.args.leaves.now c.args.postings.now)) (λ l bad m k. search rules)
