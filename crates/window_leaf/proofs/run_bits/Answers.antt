use Rattle.window_leaf.proofs.Records.{placed, placed-words, next-is, run-answer}
use Rattle.window_leaf.proofs.run_bits.Goals as goal

pub put-requires : goal.put-requires
put-requires c = let h = c.requires.1 in (placed h.0 c.gathered-g.result.at c.lower-from.result, h.1, placed-words c.args.words.now c.args.stride c.args.base c.args.states.now c.lower-from.result c.gathered-g.result.at h.0 h.1 h.2.words_are)

pub returns : goal.returns
returns c = run-answer c.args.words.now c.args.stride c.args.base c.args.states.now c.lower-from.result c.gathered-g.result.at c.gathered-g.result.bits c.unwrap_or-next.result c.put.new.states c.lower-from.ensures c.gathered-g.ensures (next-is c.get.result c.get.ensures c.unwrap_or-next.ensures) c.put.ensures
