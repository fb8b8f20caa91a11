-- The runs of the leaves passed are written, and the cursor stands behind them.
use Rattle.std.proofs.Common.{ℕ, length}
use Rattle.token_writer.specs.Writing.{RunsPre}
use Rattle.token_writer.proofs.LeafRuns.{Filled}
use Rattle.token_writer.proofs.postings.write_runs.Given as goal

abbrev pub invariant-loop-leaf : goal.invariant-loop-leaf
invariant-loop-leaf l =
    (n : ℕ) → RunsPre n l.records.fields.now l.records.leaf_fields.now l.records.tokens.now (length l.initial.postings) (length l.initial.positions) (length l.initial.runs) → Filled n l.records.fields.now l.records.leaf_fields.now l.records.tokens.now l.initial.postings l.initial.positions l.initial.runs l.postings l.positions l.runs l.at.token l.at.posting l.at.position l.leaf
