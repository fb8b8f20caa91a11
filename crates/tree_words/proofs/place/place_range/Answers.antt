-- The words are those of a state with the bitmap's place and length, and one score.
use lib.Dec.{T}
use lib.Ieee.{binary32, to_bits}
use mathlib.Core.Path.{sym, ap, subst, ◌∙◌}
use Rattle.bits.specs.Bit.{bitmap_words}
use Rattle.ieee754.proofs.Bounds.{atmost-number}
use Rattle.tree_words.proofs.Placing.{placed-range, score-is}
use Rattle.tree_words.proofs.Zeros.{zeros-are}
use Rattle.tree_words.proofs.place.place_range.Goals as goal

pub float_to_bits-score : goal.float_to_bits-score
float_to_bits-score c = atmost-number c.requires.1

pub returns-clause-placed : goal.returns-clause-placed
returns-clause-placed c =
    λ ix ranges q at count d docs listed. placed-range ix ranges c.args.states.now c.put.new.states d c.args.scores c.requires.0 c.args.score (to_bits binary32 c.args.score) (score-is c.args.score (subst T (sym c.well_formed.1.1.1.0.1) tt) c.requires.1) q at c.args.first c.bitmap_words.result count (c.bitmap_words.ensures ∙ ap bitmap_words (sym docs)) listed (rw (c.word.ensures, zeros-are c.default.result c.default.ensures) at c.put.ensures)
