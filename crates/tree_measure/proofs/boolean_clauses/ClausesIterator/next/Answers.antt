use Rattle.std.proofs.Common.{refl, rules}
use Rattle.tree_measure.proofs.boolean_clauses.ClausesIterator.next.Goals as goal

-- written out, so that a refusal names the field that differs
pub returns-clause-steps : goal.returns-clause-steps
returns-clause-steps c =
    record { there = search rules; at-is = refl; occurs = search rules; measure-is = search rules; same-query = refl; same-measures = refl; next-is = refl; left-is = refl }
