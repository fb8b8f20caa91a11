-- The first token begins a posting; any other does where its leaf or document is not that of the one before.
use Rattle.std.proofs.Common.{arith}
use Rattle.tokens.proofs.OneToken.{begins-first, begins-later}
use Rattle.tokens.proofs.begins_posting.Goals as goal

pub returns-in-None : goal.returns-in-None
returns-in-None c = begins-first _ _ c.in-None.ensures

pub returns-in-Some : goal.returns-in-Some
returns-in-Some c = begins-later c.args.tokens.now c.args.i (λ z. omega (arith, c.in-Some.ensures.0)) _ _ c.in-Some.ensures.1 c.token_at-here.ensures
