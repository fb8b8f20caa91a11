-- A phrase has at most 32 terms, so the array that is chosen has room for three words of each.
use Rattle.std.proofs.Common.{arith}
use Rattle.scorer_leaf.proofs.PhraseLaws.{frequency-few, held-length}
use Rattle.scorer_leaf.proofs.frequency_by.Goals as goal

pub frequency_in-requires-2-clause-room : goal.frequency_in-requires-2-clause-room
frequency_in-requires-2-clause-room g c = let P = c.requires.held in (omega (arith, frequency-few P.7, held-length P.7), omega arith)
