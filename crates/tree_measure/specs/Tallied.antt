-- The tally of a Boolean's clauses, from which it is known whether it has a scorer, and its cost.
-- Assumes nothing: these are definitions.
use Rattle.std.specs.Prelude.{Bool, true, false, not, cond, ◌&&◌, ℕ, ◌+◌, min, max, eqb, leb, Option, Some, None}
use Rattle.meaning.specs.Query.{Occur, must, should, must_not, filter}
use Rattle.query.specs.declared.occurrences.Occur.{Occur as Read}
use Rattle.query.specs.Kinds.{occur_meant}
use Rattle.tree_measure.specs.declared.Tally.{Tally}

-- the least of what was found, if anything, and one cost more
abbrev pub less : Option ℕ → ℕ → ℕ
less (Some l) c = min l c
less None c = c

-- a tally of a Boolean's clauses with one clause more: its occurrence, whether it has a scorer, its cost
abbrev pub tallied : Tally → Occur → Bool → ℕ → Tally
tallied t must true c = record t { required = true; least = Some (less t.least c) }
tallied t must false c = record t { required = true; missing = true }
tallied t filter true c = record t { required = true; least = Some (less t.least c) }
tallied t filter false c = record t { required = true; missing = true }
tallied t should true c = record t { shoulds = t.shoulds + 1; group = t.group + c }
tallied t should false c = t
tallied t must_not p c = t

-- the same by what is read of the clause's record: a number that is no occurrence's counts nothing
abbrev pub tallied_at : Tally → Option Read → Bool → ℕ → Tally
tallied_at t (Some o) p c = tallied t (occur_meant o) p c
tallied_at t None p c = t

-- whether a Boolean has a scorer, from the tally of its clauses
abbrev pub tally_present : Tally → ℕ → Bool
tally_present t msm = not t.missing && leb (cond t.required msm (max 1 msm)) t.shoulds

-- what a conjunction costs: the least of what was found, with msm above 0 the Should group as one more
abbrev pub conjunction : Option ℕ → ℕ → ℕ → ℕ
conjunction (Some l) msm group = cond (eqb msm 0) l (min l group)
conjunction None msm group = cond (eqb msm 0) 0 group

-- and its cost
abbrev pub tally_cost : Tally → ℕ → ℕ
tally_cost t msm = cond t.required (conjunction t.least msm t.group) t.group
