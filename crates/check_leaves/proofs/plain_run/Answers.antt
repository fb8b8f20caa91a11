-- A run is right where each block of it is, read together with the last record of the block before.
use Rattle.std.proofs.Common.{◌≡◌, ◌+◌, ◌/◌, ◌≤◌, min, length, arith, eqb-true, refl, sym, ◌∙◌}
use Rattle.meaning.proofs.Below.{count-le}
use Rattle.check_leaves.specs.Plain.{document_fall}
use Rattle.check_leaves.proofs.Blocks.{Passed, passed-at, passed-none, passed-more, passed-all, part, part-count}
use Rattle.check_leaves.proofs.plain_run.Goals.{In-Some, else-loop-done-test, then-loop-done-test+in-Some+else-count-done-gt4096}
use Rattle.check_leaves.proofs.plain_run.Goals as goal

-- what is right where a block begins
begun : (c : In-Some) → Passed c.args.run.now c.args.positions.now c.loop-done.done c.loop-done.fallen
begun c = passed-at c.args.run.now c.args.positions.now _ c.loop-done.done c.loop-done.fallen (omega arith) c.loop-done.invariant.0

pub loop-done-init : goal.loop-done-init
loop-done-init c =
    (passed-at c.args.run.now c.args.positions.now 1 _ 0 (omega (arith, c.if-count-lt2.false)) (passed-none c.args.run.now c.args.positions.now), omega arith)

pub overflow_add-fallen : goal.overflow_add-fallen
overflow_add-fallen c =
    let run = c.args.run.now in
    let l = c.loop-done in
    let e = c.block_end-end in
    let b = c.in-Some.ensures in
    let p = begun c in
    omega (arith, p.falling, count-le l.done (document_fall run), b.0.falling, count-le (length (part run c.args.positions.now l.done l.fallen e.result p l.invariant.1 e.ensures.0 e.ensures.1) / 3) (document_fall (part run c.args.positions.now l.done l.fallen e.result p l.invariant.1 e.ensures.0 e.ensures.1)), part-count run c.args.positions.now l.done l.fallen e.result p l.invariant.1 e.ensures.0 e.ensures.1, e.ensures, c.well_formed)

pub loop-done-preserved : goal.loop-done-preserved
loop-done-preserved c =
    let l = c.loop-done in
    let e = c.block_end-end in
    let b = c.in-Some.ensures in
    let p = begun (goal.at.loop-done-preserved c).In-Some in
    (passed-at c.args.run.now c.args.positions.now e.result _ (l.fallen + c.in-Some.fall) (omega (arith, e.ensures)) (passed-more c.args.run.now c.args.positions.now l.done l.fallen e.result p l.invariant.1 e.ensures.0 e.ensures.1 c.in-Some.fall b.0 b.1 _ refl), omega (arith, e.ensures))

pub returns : goal.returns
returns c =
    let run = c.args.run.now in
    let positions = c.args.positions.now in
    let n = length run / 3 in
    let l = c.loop-done in
    let two : 2 ≤ n = omega (arith, c.if-count-lt2.false) in
    elim c.loop-done-test.branch [
      | else-loop-done-test w ↦
          let all : min l.done n ≡ n = omega arith in
          λ e. passed-all run positions (min l.done n) n l.fallen c.args.falls l.invariant.0 two all (sym w.fallen-is ∙ eqb-true _ _ e)
      | then-loop-done-test+in-Some+else-count-done-gt4096 w ↦
          let b = w.in-Some.ensures in
          let ends = w.block_end-end.ensures in
          let here : min l.done n ≡ l.done = omega arith in
          let p = rw here at l.invariant.0 in
          let all : w.block_end-end.result ≡ n = omega (arith, ends) in
          λ e. passed-all run positions w.block_end-end.result n (l.fallen + w.in-Some.fall) c.args.falls (passed-more run positions l.done l.fallen w.block_end-end.result p l.invariant.1 ends.0 ends.1 w.in-Some.fall b.0 b.1 _ refl) two all (sym w.fallen-is ∙ eqb-true _ _ e)
    ]
