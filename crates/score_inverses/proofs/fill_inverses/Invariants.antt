-- The fields of the records before `at` have their inverses in the table.
use Rattle.std.proofs.Common.{◌≡◌, length}
use Rattle.index.specs.IndexOf.{index_of}
use Rattle.score_inverses.proofs.Filling.{Filled}
use Rattle.score_inverses.proofs.fill_inverses.Given as goal

abbrev pub invariant-loop-at : goal.invariant-loop-at
invariant-loop-at l = record {
  filling : Filled (index_of l.lent) l.query l.table l.filled l.at;
  wide : length l.filled ≡ 16;
}
