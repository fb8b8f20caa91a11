-- The first token has none before it to be compared with; any other must not be below the one before.
use Rattle.std.proofs.Common.{arith}
use Rattle.tokens.proofs.OneToken.{wrong_first, wrong-later}
use Rattle.tokens.proofs.TokenRecords.wrong_token.Goals as goal

pub returns-in-None : goal.returns-in-None
returns-in-None c = let s = c.args.self in wrong_first s.tokens.now c.args.i s.max_doc s.leaf_fields.now c.in-None.ensures _ c.token_at-here.ensures

pub returns-in-Some : goal.returns-in-Some
returns-in-Some c = let s = c.args.self in wrong-later s.tokens.now c.args.i s.max_doc s.leaf_fields.now (λ z. omega (arith, c.in-Some.ensures.0)) _ _ c.in-Some.ensures.1 c.token_at-here.ensures _ c.lt.ensures
