-- Each turn looks at one document more, beside the one before it.
use Rattle.std.proofs.Common.{◌∙◌, arith}
use Rattle.meaning.proofs.Below.{any-more, any-done}
use Rattle.entry_pick.proofs.PickEntry.{picked_first, lists-unequal, lists-equal, lists-empty}
use Rattle.entry_pick.proofs.wrong_lists.Goals as goal

pub returns-then-documents-scores : goal.returns-then-documents-scores
returns-then-documents-scores c = lists-unequal _ _ c.if-documents-scores.true

pub returns-then-documents-eq0 : goal.returns-then-documents-eq0
returns-then-documents-eq0 c = lists-empty _ _ c.if-documents-scores.false c.if-documents-eq0.true

pub loop-i-init : goal.loop-i-init
loop-i-init c = picked_first _ _

pub loop-i-preserved : goal.loop-i-preserved
loop-i-preserved c = any-more _ _ _ _ c.loop-i.invariant c.wrong_picked-bad.ensures

pub returns : goal.returns
returns c = any-done _ _ _ _ c.loop-i.invariant (omega arith) (omega arith) ∙ lists-equal _ _ c.if-documents-scores.false
