use Rattle.window_leaf.proofs.Ranges.{part-at, part-even, part-across}
use Rattle.window_leaf.proofs.bits_from.Goals as goal

pub returns-then-skip-eq0 : goal.returns-then-skip-eq0
returns-then-skip-eq0 c = part-even c.args.bitmap.now c.args.at c.word_at-low.result (part-at _ _ c.word_at-low.ensures) c.if-skip-eq0.true

pub returns : goal.returns
returns c = part-across c.args.bitmap.now c.args.at c.word_at-low.result (part-at _ _ c.word_at-low.ensures) c.word_at-high.result c.joined.result c.low.result (part-at _ _ c.word_at-high.ensures) c.joined.ensures.low_bits c.joined.ensures.high_bits c.low.ensures
