-- The high half is times 2^32: below bit 32 stand the low half's bits, from bit 32 on the high half's.
use Rattle.std.proofs.Common.{◌≡◌, ap, ◌∙◌, ℕ, ◌+◌, ◌*◌, ◌^◌, arith}
use Rattle.bits.specs.Bit.{bit}
use Rattle.bits.proofs.Laws.{bit-low, bit-high}
use Rattle.bits.proofs.joined.Goals as goal

turned : (low high l h : ℕ) → l ≡ low → h ≡ high → l + h * 4294967296 ≡ high * 2 ^ 32 + low
turned low high l h e f = omega arith

pub returns-clause-low_bits : goal.returns-clause-low_bits
returns-clause-low_bits c = λ q k. ap (bit q) (turned c.args.low c.args.high c.from.result c.from-2.result c.from.ensures c.from-2.ensures) ∙ bit-low 32 q c.args.high c.args.low k

pub returns-clause-high_bits : goal.returns-clause-high_bits
returns-clause-high_bits c = λ q k. ap (bit q) (turned c.args.low c.args.high c.from.result c.from-2.result c.from.ensures c.from-2.ensures) ∙ bit-high 32 q c.args.high c.args.low c.ranges.low.fits k
