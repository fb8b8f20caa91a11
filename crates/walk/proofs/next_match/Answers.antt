-- The tree's next match is the answer if it is live, else the search goes on behind it.
use mathlib.Core.Path.{sym, ◌∙◌}
use native.Mathlib.Omega.{arith}
use Rattle.scorer_leaf.proofs.Loops.{same_then}
use Rattle.walk.proofs.Walking.{walk_from, walk-stop, walk-found, walk_more}
use Rattle.walk.proofs.next_match.Goals as goal

pub returns-then-d-reader-clause-next_post : goal.returns-then-d-reader-clause-next_post
returns-then-d-reader-clause-next_post c =
    let i = c.loop-from.invariant in
    walk-stop i.passed _ c.advance-d.ensures.advance_post c.requires.0 i.top (omega arith)

pub returns-then-is_live-clause-next_post : goal.returns-then-is_live-clause-next_post
returns-then-is_live-clause-next_post c =
    let i = c.loop-from.invariant in
    walk-found i.passed _ c.advance-d.ensures.advance_post i.from (omega arith) (sym c.is_live.ensures ∙ c.if-is_live.true)

pub loop-from-smaller : goal.loop-from-smaller
loop-from-smaller c =
    let H = c.requires.1.6.lends in
    omega (arith, H.accepted.documents, H.documents, walk_from c.loop-from.invariant.passed _ c.advance-d.ensures.advance_post _ _ c.requires)

pub loop-from-preserved : goal.loop-from-preserved
loop-from-preserved c =
    let i = c.loop-from.invariant in
    let p = c.advance-d.ensures.advance_post in
    let H = c.requires.1.6.lends in
    record {
      same_buffers = same_then i.same_buffers c.advance-d.ensures.same_buffers;
      from = omega (arith, walk_from i.passed _ p _ _ c.requires);
      top = omega (arith, H.accepted.documents, H.documents);
      passed = walk_more i.passed _ p (sym c.is_live.ensures ∙ c.if-is_live.false);
    }
