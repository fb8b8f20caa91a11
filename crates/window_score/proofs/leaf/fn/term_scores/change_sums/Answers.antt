use Rattle.std.proofs.Common.{arith}
use Rattle.window_score.proofs.leaf.fn.term_scores.change_sums.Goals as goal

pub posting_frequency-frequency-requires : goal.posting_frequency-frequency-requires
posting_frequency-frequency-requires c = omega (arith, c.requires.there, c.rank.ensures)
