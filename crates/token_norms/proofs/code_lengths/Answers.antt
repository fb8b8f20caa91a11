-- Each turn stores one length as its byte.
use Rattle.std.proofs.Common.{length, get_or, arith}
use Rattle.meaning.specs.SmallFloat.{int_to_byte4}
use Rattle.token_norms.proofs.Filled.{listed}
use Rattle.token_norms.proofs.code_lengths.Goals as goal

pub returns : goal.returns
returns c = listed c.loop-j.norms (length c.args.norms.now) (λ j. int_to_byte4 (get_or c.args.lengths.now j 0)) c.loop-j.auto.norms (λ k h. c.loop-j.invariant k (omega arith))
