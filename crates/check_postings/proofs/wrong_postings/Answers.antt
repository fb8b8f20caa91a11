-- Leaves that are plainly right add nothing, the others are read one by one: `bad` is right of all leaves before `l`.
use Rattle.std.proofs.Common.{sym, ap, ◌∙◌, arith}
use Rattle.meaning.specs.Below.{any_below}
use Rattle.meaning.proofs.Below.{any-zero, any-done}
use Rattle.index.specs.IndexOf.{index_of}
use Rattle.index.proofs.Whole.{postings-not-whole, postings-some}
use Rattle.check_postings.proofs.From.{wrong_leaf_run, from-joined, from-right}
use Rattle.check_postings.proofs.wrong_postings.Goals as goal

pub returns-then-lent-ne0 : goal.returns-then-lent-ne0
returns-then-lent-ne0 c = postings-not-whole _ c.if-lent-ne0.true

pub loop-l-init : goal.loop-l-init
loop-l-init c = (sym (any-zero _), omega arith)

pub loop-l-preserved-in-Ok : goal.loop-l-preserved-in-Ok
loop-l-preserved-in-Ok c =
    let e = c.in-Ok.ensures in
    (from-right (wrong_leaf_run (index_of c.args.lent.now)) c.loop-l.l _ _ (omega (arith, e.bounds)) c.loop-l.invariant.0 e.right, e.bounds.1)

pub loop-l-preserved : goal.loop-l-preserved
loop-l-preserved c =
    let e = c.in-Err.ensures in
    (from-joined (wrong_leaf_run (index_of c.args.lent.now)) c.loop-l.l _ _ _ (omega (arith, e.bounds)) c.loop-l.invariant.0 c.wrong_runs-bad.ensures, e.bounds.1)

pub returns : goal.returns
returns c = any-done _ _ _ _ c.loop-l.invariant.0 c.loop-l.invariant.1 c.loop-l-test.false ∙ ap (λ n. any_below n (wrong_leaf_run (index_of c.args.lent.now))) c.leaf_count-count.ensures ∙ postings-some _ c.if-lent-ne0.false
