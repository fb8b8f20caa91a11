-- Where the positions fall as often in all as at the postings' beginnings, none falls within a posting.
use Rattle.std.proofs.Common.{◌+◌, ◌-◌, ◌*◌, ◌<◌, ◌/◌, eqb, leb, length, get_or, length-drop, length-take, refl, arith, eqb-true, leb-true}
use Rattle.check_positions.proofs.Gaps.{and_left, and_right}
use Rattle.check_positions.proofs.Joined.{begins-before, falls-right, ones-right, seam-within}
use Rattle.check_positions.proofs.plain_positions.Goals.{Start}
use Rattle.check_positions.proofs.plain_positions.Goals as goal

-- the positions begin before they end
begins : (c : Start) → get_or c.args.run.now 2 0 < get_or c.args.run.now (3 * (length c.args.run.now / 3 - 1) + 2) 0 + get_or c.args.run.now (3 * (length c.args.run.now / 3 - 1) + 1) 0
begins c = begins-before _ c.requires.nonzero c.requires.run_value (λ i l. (c.requires.by_index i l).0)

pub overflow_sub-end : goal.overflow_sub-end
overflow_sub-end c = omega (arith, begins (goal.at.overflow_sub-end c).Start)

pub slice_bounds-part-start : goal.slice_bounds-part-start
slice_bounds-part-start c = omega (arith, begins (goal.at.slice_bounds-part-start c).Start)

pub slice_bounds-part-count : goal.slice_bounds-part-count
slice_bounds-part-count c = omega (arith, begins (goal.at.slice_bounds-part-count c).Start)

pub returns-then-frequencies-le1 : goal.returns-then-frequencies-le1
returns-then-frequencies-le1 c = λ e.
    let run = c.args.run.now in
    let n = length c.args.run.now / 3 in
    ones-right run n c.requires.run_value (get_or run (3 * (n - 1) + 2) 0 + get_or run (3 * (n - 1) + 1) 0) c.requires.nonzero refl c.args.positions.now c.if-end-positions.false (λ i l. (c.requires.by_index i l).0) (get_or run 2 0) refl _ (leb-true _ _ e) c.or_all.ensures (λ i l. omega (arith, (c.requires.by_index i l).1, c.if-frequencies-le1.true))

pub seen_in-seen-requires : goal.seen_in-seen-requires
seen_in-seen-requires c =
    (simp (length-take, length-drop) (omega (arith, begins (goal.at.seen_in-seen-requires c).Start, c.if-end-positions.false)), simp (length-take, length-drop) (omega (arith, c.if-end-from-gt4294967295.false)))

pub seams-requires-clause-by_index : goal.seams-requires-clause-by_index
seams-requires-clause-by_index c =
    let run = c.args.run.now in
    let n = length c.args.run.now / 3 in
    seam-within run n c.requires.run_value (get_or run (3 * (n - 1) + 2) 0 + get_or run (3 * (n - 1) + 1) 0) c.requires.nonzero refl c.args.positions.now c.if-end-positions.false (λ i l. (c.requires.by_index i l).0)

pub returns : goal.returns
returns c = λ e.
    let run = c.args.run.now in
    let n = length c.args.run.now / 3 in
    let few = leb c.seen_in-seen.result.all 2147483647 in
    let same = eqb c.seen_in-seen.result.falls c.seams.result in
    falls-right run n c.requires.run_value (get_or run (3 * (n - 1) + 2) 0 + get_or run (3 * (n - 1) + 1) 0) c.requires.nonzero refl c.args.positions.now c.if-end-positions.false (λ i l. (c.requires.by_index i l).0) (get_or run 2 0) refl _ (leb-true _ _ (and_left few same e)) c.seen_in-seen.ensures.by_index _ _ c.seen_in-seen.ensures.falls_value c.seams.ensures (eqb-true _ _ (and_right few same e))
