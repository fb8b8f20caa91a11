-- Each turn of the inner loop gathers one word more of the row, beside the record before it.
use Rattle.std.proofs.Common.{◌≡◌, ◌+◌, ◌-◌, ◌*◌, ◌/◌, ◌<◌, [], length, get_or, take, drop, length-take, length-drop, refl, arith}
use Rattle.check_rows.proofs.Filling.{filled_none, filled-all, filled_word, row-word, lane_count, unsaturated}
use Rattle.check_rows.proofs.rows.Goals as goal

pub loop-i-init : goal.loop-i-init
loop-i-init c = filled_none _

pub loop-j-preserved : goal.loop-j-preserved
loop-j-preserved c =
    let part = c.args.part.now in
    let i = c.loop-i.i in
    let j = c.loop-j.j in
    let size6 = length-take (length part - 6) (drop 6 part) in
    let size3 = length-take (length part - 3) (drop 3 part) in
    let size2 = length-take (length part - 2) (drop 2 part) in
    let in6 : i < length (take (length part - 6) (drop 6 part)) / 12 = omega (arith, c.as_chunks.ensures.front_len, c.loop-i-test.true) in
    let in3 : i < length (take (length part - 3) (drop 3 part)) / 12 = omega (arith, in6, size6, size3, length-drop 6 part, length-drop 3 part, c.requires) in
    let in2 : i < length (take (length part - 2) (drop 2 part)) / 12 = omega (arith, in6, size6, size2, length-drop 6 part, length-drop 2 part, c.requires) in
    let word = row-word part 6 _ i j c.as_chunks.result.0.now c.as_chunks.ensures.front (omega arith) refl in6 c.loop-j-test.true (6 + j + 12 * i) (omega arith) in
    let before = row-word part 3 _ i j c.as_chunks-2.result.0.now c.as_chunks-2.ensures.front (omega arith) refl in3 c.loop-j-test.true (6 + j + 12 * i - 3) (omega arith) in
    let count = row-word part 2 _ i j c.as_chunks-3.result.0.now c.as_chunks-3.ensures.front (omega arith) refl in2 c.loop-j-test.true (6 + j + 12 * i - 4) (omega arith) in
    let small : get_or (get_or c.as_chunks.result.0.now i []) j 0 < 4294967296 = omega (arith, word, c.type_inv.part (6 + j + 12 * i)) in
    let low : get_or (get_or c.as_chunks-2.result.0.now i []) j 0 < 4294967296 = omega (arith, before, c.type_inv.part (6 + j + 12 * i - 3)) in
    let few = lane_count part (6 + j) i _ _ _ (c.loop-j.invariant.left j (omega arith) c.loop-j-test.true) in
    let rises = unsaturated (get_or c.loop-j.rises j 0) _ _ c.saturating_add.ensures (omega (arith, few, in6, size6, length-drop 6 part, c.requires)) in
    filled_word part i j c.loop-j.rises c.loop-j.apart c.loop-j.all c.loop-j.invariant c.loop-j-test.true (6 + j + 12 * i) _ _ _ _ refl word before count small low rises

pub returns : goal.returns
returns c =
    let part = c.args.part.now in
    let all : c.loop-i.i ≡ (length c.args.part.now - 6) / 12 = omega (arith, c.as_chunks.ensures.front_len, c.loop-i-test.false, c.loop-i.auto.i-end, length-take (length part - 6) (drop 6 part), length-drop 6 part) in
    filled-all _ _ _ _ _ _ c.loop-i.invariant all
