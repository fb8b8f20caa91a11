-- The window's 64 bits are two words of the range's bitmap, from the window on.
use Rattle.std.proofs.Common.{ap, ◌+◌, ◌≤◌, length, get_or, arith}
use Rattle.meaning.specs.Limits.{node_state_words}
use Rattle.window_words.specs.Windowed.{nowhere}
use Rattle.window_words.proofs.Laws.{windowed-long}
use Rattle.window_leaf.proofs.Ranges.{window-part}
use Rattle.window_leaf.proofs.Nodes.{node-front, range-asks, range-answer}
use Rattle.window_leaf.proofs.range_bits.Goals as goal

pub bounds-states-6 : goal.bounds-states-6
bounds-states-6 c = let q = c.requires.2 in let z : node_state_words ≤ length c.args.states.now = windowed-long q.2 q.0.ranges q.4 q.5 q.6 c.args.states.now c.args.base c.args.base nowhere q.7.held in omega (arith, z)

pub bounds-states-7 : goal.bounds-states-7
bounds-states-7 c = let q = c.requires.2 in let z : node_state_words ≤ length c.args.states.now = windowed-long q.2 q.0.ranges q.4 q.5 q.6 c.args.states.now c.args.base c.args.base nowhere q.7.held in omega (arith, z)

-- the bitmap lies within the ranges
pub slice_bounds-bitmap-end : goal.slice_bounds-bitmap-end
slice_bounds-bitmap-end c = let q = c.requires.2 in omega (arith, range-asks q.0 q.2 q.3 q.5 q.6 c.args.states.now c.args.base c.requires.1 q.4 q.7, ap length q.1)

pub put-requires : goal.put-requires
put-requires c = let q = c.requires.2 in node-front q.0 q.2 q.3 q.5 q.6 c.args.states.now c.args.base q.4 q.7

pub returns : goal.returns
returns c = λ E k same ix places s o h.
    let R = c.args.ranges.now in
    let q = c.requires.2 in
    let there : get_or c.args.states.now 6 0 + get_or c.args.states.now 7 0 ≤ length R = omega (arith, range-asks q.0 q.2 q.3 q.5 q.6 c.args.states.now c.args.base c.requires.1 q.4 q.7, ap length q.1) in
    let part = window-part R (get_or c.args.states.now 6 0) (get_or c.args.states.now 7 0) c.args.base c.bits_from-low.result c.bits_from-high.result c.joined-bits.result there c.bits_from-low.ensures c.bits_from-high.ensures c.joined-bits.ensures.low_bits c.joined-bits.ensures.high_bits in
    range-answer E ix places k o c.args.states.now c.args.base c.requires.1 c.joined-bits.result c.put.new.states c.requires.0 c.put.ensures (rw same part) s h
