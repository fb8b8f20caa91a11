use Rattle.window_leaf.proofs.Records.{put-answer}
use Rattle.window_leaf.proofs.put.Goals as goal

pub returns : goal.returns
returns c = put-answer c.args.states.now c.args.bits c.args.next c.low.result c.high.result c.low.ensures c.high.ensures
