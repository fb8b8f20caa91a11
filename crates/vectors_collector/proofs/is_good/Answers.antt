-- Each turn checks one document and score more; where all are right the lists are such as Pick takes.
use Rattle.std.proofs.Common.{arith}
use Rattle.vectors_collector.proofs.Checks.{next-seen, all_seen}
use Rattle.vectors_collector.proofs.is_good.Goals as goal

pub loop-i-preserved : goal.loop-i-preserved
loop-i-preserved c =
    next-seen c.loop-i.invariant (omega arith) c.if-document-least.false c.if-document-ge-NO_MORE_DOCS.false c.if-scores-i-gt-PLUS_INFINITY.false

pub returns : goal.returns
returns c = λ e. all_seen c.loop-i.invariant (omega arith)
