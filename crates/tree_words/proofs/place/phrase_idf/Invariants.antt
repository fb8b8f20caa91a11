-- `sum` is the sum of the first j terms' idfs, in f64.
use Rattle.std.proofs.Common.{◌≡◌}
use Rattle.meaning.specs.Below.{list_to}
use Rattle.meaning.specs.Ieee754.{zero_float, sum_from}
use Rattle.index.specs.IndexOf.{index_of}
use Rattle.tree_words.proofs.Idf.{idf_at}
use Rattle.tree_words.proofs.place.phrase_idf.Given as goal

abbrev pub invariant-loop-j : goal.invariant-loop-j
invariant-loop-j l = l.sum ≡ sum_from zero_float (list_to l.j (idf_at (index_of l.lent) l.query l.at))
