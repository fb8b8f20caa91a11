-- Each turn writes one leaf's run behind those of the leaves before it, and its place and number.
use Rattle.std.proofs.Common.{ℕ, length, refl, arith}
use Rattle.token_index.proofs.Order.{few-tokens, few-leaves}
use Rattle.token_writer.proofs.LeafRuns.{field-there, filled-start, run_fits, filled_next, filled-end}
use Rattle.token_writer.specs.Writing.{WriteRunPre, WriteRunPost, RunsPre}
use Rattle.token_writer.proofs.postings.write_runs.Goals.{After-is_positional-positional, After-write_run-end}
use Rattle.token_writer.proofs.postings.write_runs.Goals as goal

pub loop-leaf-init : goal.loop-leaf-init
loop-leaf-init c = λ n pre. filled-start n _ _ _ _ _ _

pub is_positional-positional-requires : goal.is_positional-positional-requires
is_positional-positional-requires c = (c.loop-leaf-test.true, field-there _ _ _ _ c.requires.1.right _ c.loop-leaf-test.true)

pub overflow_cast-leaf : goal.overflow_cast-leaf
overflow_cast-leaf c = omega (arith, c.loop-leaf-test.true, few-leaves _ _ _ _ c.requires.1.right)

-- the leaf's run can be written
fits : (c : After-is_positional-positional) (n : ℕ)
    → RunsPre n c.args.records.fields.now c.args.records.leaf_fields.now c.args.records.tokens.now (length c.args.postings.now) (length c.args.positions.now) (length c.args.runs.now)
    → WriteRunPre n (length c.args.records.leaf_fields.now) c.args.records.tokens.now c.loop-leaf.leaf c.is_positional-positional.result c.loop-leaf.at.token c.loop-leaf.at.posting c.loop-leaf.at.position (length c.loop-leaf.postings) (length c.loop-leaf.positions)
fits c n pre = run_fits _ _ _ _ _ _ _ pre _ _ _ _ _ _ _ (c.loop-leaf.invariant n pre) c.loop-leaf-test.true _ c.is_positional-positional.ensures

-- and has been
ran : (c : After-write_run-end) → WriteRunPost c.requires.0 c.args.records.tokens.now c.loop-leaf.leaf c.is_positional-positional.result c.loop-leaf.at.posting c.loop-leaf.at.position c.loop-leaf.postings c.loop-leaf.positions c.write_run-end.new.postings c.write_run-end.new.positions c.write_run-end.result
ran c = c.write_run-end.ensures _ _ (run_fits _ _ _ _ _ _ _ c.requires.1 _ _ _ _ _ _ _ (c.loop-leaf.invariant _ c.requires.1) c.loop-leaf-test.true _ c.is_positional-positional.ensures)

pub write_run-end-requires : goal.write_run-end-requires
write_run-end-requires c = (_, _, fits (goal.at.write_run-end-requires c).After-is_positional-positional _ c.requires.1)

pub overflow_cast-at : goal.overflow_cast-at
overflow_cast-at c =
    let done = c.loop-leaf.invariant _ c.requires.1 in
    omega (arith, done.few_postings, done.begins.within, few-tokens _ _ _ _ c.requires.1.right)

pub overflow_sub-end : goal.overflow_sub-end
overflow_sub-end c = omega (arith, (ran (goal.at.overflow_sub-end c).After-write_run-end).posting_end)

pub overflow_cast-end : goal.overflow_cast-end
overflow_cast-end c =
    let post = ran (goal.at.overflow_cast-end c).After-write_run-end in
    omega (arith, post.few_postings, post.begins.within, few-tokens _ _ _ _ c.requires.1.right)

pub loop-leaf-preserved : goal.loop-leaf-preserved
loop-leaf-preserved c =
    λ n pre.
    filled_next _ _ _ _ _ _ _ pre _ _ _ _ _ _ _ (c.loop-leaf.invariant n pre) c.loop-leaf-test.true _ _ _ _ _ _ c.is_positional-positional.ensures refl (c.write_run-end.ensures _ _ (fits (goal.at.loop-leaf-preserved c).After-is_positional-positional n pre)) c.write_record.ensures

pub returns : goal.returns
returns c =
    λ n pre. filled-end _ _ _ _ _ _ _ pre _ _ _ _ _ _ _ (c.loop-leaf.invariant n pre) c.loop-leaf-test.false
