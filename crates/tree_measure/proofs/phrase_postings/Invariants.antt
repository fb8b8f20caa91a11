-- `fewest` is the least number of postings of the first j terms.
use Rattle.std.proofs.Common.{◌≡◌, ◌<◌}
use Rattle.meaning.specs.Cost.{least}
use Rattle.index.specs.IndexOf.{index_of}
use Rattle.tree_weight.specs.Measured.{term_numbers}
use Rattle.tree_measure.proofs.phrase_postings.Given as goal

abbrev pub invariant-loop-j : goal.invariant-loop-j
invariant-loop-j l = record { small : l.fewest < 4294967296; fewest : l.fewest ≡ least (term_numbers (index_of l.lent) l.query l.at l.j) }
