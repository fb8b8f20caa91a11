-- The runs of the field's leaves before l are added.
use Rattle.std.proofs.Common.{length}
use Rattle.token_norms.proofs.Leaves.{Added}
use Rattle.token_norms.proofs.FieldRuns.add_leaves.Given as goal

abbrev pub invariant-loop-l : goal.invariant-loop-l
invariant-loop-l l = Added l.self.leaf_fields.now l.self.postings.now l.self.runs.now l.self.field l.base (length l.initial.counts) l.l l.cursors l.counts
