-- The four digits shifted by at most 60 places lose none.
use Rattle.std.proofs.Common.{ℕ, ◌+◌, ◌-◌, ◌/◌, ◌%◌, ◌≤◌, ◌<◌, ◌∙◌, arith}
use lib.Pow.{shl_exact}
use Rattle.sim.proofs.Codes.{int4-few, int4-many}
use Rattle.sim.proofs.small_float.int4_to_long.Goals as goal

pub returns-then-i-lt8 : goal.returns-then-i-lt8
returns-then-i-lt8 c = c.from.ensures ∙ int4-few c.args.i c.if-i-lt8.true

digits : (i : ℕ) → 8 + i % 8 < 16
digits i = omega arith

room : (i : ℕ) → i < 496 → 4 + (i / 8 - 1) ≤ 64
room i h = omega arith

pub returns-else-i-lt8 : goal.returns-else-i-lt8
returns-else-i-lt8 c =
    let i = c.args.i in
    rw c.from-else-i-lt8.ensures (shl_exact 4 (i / 8 - 1) 64 (digits i) (room i c.requires) ∙ int4-many i c.if-i-lt8.false)
