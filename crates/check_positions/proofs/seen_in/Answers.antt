-- The high bit of a wrapping difference is set where a position falls; an or is at least each of its words.
use Rattle.std.proofs.Common.{◌-◌, ◌<◌, get_or, refl, arith}
use Rattle.meaning.proofs.Below.{count-le}
use Rattle.check_positions.specs.Places.{drop_at}
use Rattle.check_positions.proofs.Gaps.{bound-more, only, drop-first, drop_more}
use Rattle.check_positions.proofs.seen_in.Goals as goal

pub loop-k-init : goal.loop-k-init
loop-k-init c = record { bound = only (λ i. get_or c.args.part.now i 0); dropped = drop-first _ }

pub overflow_add-falls : goal.overflow_add-falls
overflow_add-falls c = omega (arith, c.loop-k.invariant.dropped, count-le c.loop-k.k (drop_at c.args.part.now), c.requires, c.loop-k-test.true)

pub loop-k-preserved : goal.loop-k-preserved
loop-k-preserved c =
    let part = c.args.part.now in
    let k = c.loop-k.k in
    let place : get_or c.args.part.now k 0 < 4294967296 = omega (arith, c.type_inv.part k) in
    let before : get_or c.args.part.now (k - 1) 0 < 4294967296 = omega (arith, c.type_inv.part (k - 1)) in
    record {
      bound = bound-more (λ i. get_or part i 0) _ _ _ c.loop-k.invariant.bound refl;
      dropped = drop_more part k _ (get_or part (k - 1) 0) refl c.loop-k.invariant.dropped place before;
    }
