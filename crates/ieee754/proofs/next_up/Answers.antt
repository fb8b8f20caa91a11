-- std's function tests the pattern, and says the same.
use Rattle.std.proofs.Common.{sym, ◌∙◌, subst, T}
use Rattle.ieee754.proofs.Successor.{next-up-std}
use Rattle.ieee754.proofs.next_up.Goals as goal

pub returns : goal.returns
returns c = c.next_up.ensures ∙ next-up-std c.args.f (subst T (sym c.well_formed.0.1) tt)
