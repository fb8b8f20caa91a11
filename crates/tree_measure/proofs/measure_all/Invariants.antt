-- The records from `at` on are measured.
use Rattle.index.specs.IndexOf.{index_of}
use Rattle.tree_measure.specs.Measures.{AllMeasured}
use Rattle.tree_measure.proofs.measure_all.Given as goal

abbrev pub invariant-loop-at : goal.invariant-loop-at
invariant-loop-at l =
    AllMeasured (index_of l.lent) l.query l.measures l.at
