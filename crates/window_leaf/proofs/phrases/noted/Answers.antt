-- A frequency of 1, 2, or 3 and more sets one plane's bit, the other's, or both.
use Rattle.std.proofs.Common.{refl, arith}
use Rattle.window_leaf.proofs.PlaneLaws.{noted-none, noted-one, noted-two, noted-more}
use Rattle.window_leaf.proofs.phrases.noted.Goals as goal

pub returns-in-0 : goal.returns-in-0
returns-in-0 c = let a = c.args in noted-none a.planes.ones a.planes.twos a.place a.frequency 0 (omega (arith, c.in-0.is)) refl

pub returns-in-1 : goal.returns-in-1
returns-in-1 c = let a = c.args in noted-one a.planes.ones a.planes.twos a.place a.frequency 1 (omega (arith, c.in-1.is)) refl c.set_bit.result c.set_bit.ensures

pub returns-in-2 : goal.returns-in-2
returns-in-2 c = let a = c.args in noted-two a.planes.ones a.planes.twos a.place a.frequency 2 (omega (arith, c.in-2.is)) refl c.set_bit-in-2.result c.set_bit-in-2.ensures

pub returns-in_default : goal.returns-in_default
returns-in_default c = let a = c.args in noted-more a.planes.ones a.planes.twos a.place a.frequency 3 (omega arith) refl c.set_bit-in_default.result c.set_bit-in_default-2.result c.set_bit-in_default.ensures c.set_bit-in_default-2.ensures
