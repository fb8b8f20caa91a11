-- Each turn stores one token's position.
use Rattle.std.proofs.Common.{◌+◌, length, arith}
use Rattle.meaning.specs.Tokens.{token_at}
use Rattle.token_norms.proofs.Filled.{listed}
use Rattle.token_writer.proofs.postings.copy_positions.Goals as goal

pub returns : goal.returns
returns c = listed c.loop-j.positions (length c.args.positions.now) (λ j. (token_at c.args.tokens.now (c.args.from + j)).position) c.loop-j.auto.positions (λ k h. c.loop-j.invariant k (omega arith))
