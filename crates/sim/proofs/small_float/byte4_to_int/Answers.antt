-- Lengths below 24 are their own bytes; any other is 24 more than the number that the byte less 24 stands for.
use Rattle.std.proofs.Common.{◌≡◌, ℕ, ◌+◌, ◌-◌, ◌≤◌, ap, ◌∙◌, arith}
use Rattle.meaning.specs.SmallFloat.{int4_to_long, byte4_to_int}
use Rattle.sim.proofs.Codes.{int-few, int-many, byte4_to_int-le}
use Rattle.sim.proofs.small_float.byte4_to_int.Goals as goal

-- the sum is the length
sum_is : (b i n : ℕ) → i ≡ b → n ≡ int4_to_long (i - 24) → 24 ≤ i → 24 + n ≡ byte4_to_int b
sum_is b i n e g h = ap (λ (z : ℕ). 24 + z) (g ∙ ap (λ (z : ℕ). int4_to_long (z - 24)) e) ∙ int-many b (omega (arith, e, h))

pub overflow_cast-result : goal.overflow_cast-result
overflow_cast-result c =
    omega (arith, sum_is c.args.b c.from-i.result c.int4_to_long.result c.from-i.ensures c.int4_to_long.ensures c.if-i-lt-NUM_FREE_VALUES.false, byte4_to_int-le c.args.b (omega (arith, c.ranges.b)))

pub overflow_add-result : goal.overflow_add-result
overflow_add-result c =
    omega (arith, sum_is c.args.b c.from-i.result c.int4_to_long.result c.from-i.ensures c.int4_to_long.ensures c.if-i-lt-NUM_FREE_VALUES.false, byte4_to_int-le c.args.b (omega (arith, c.ranges.b)))

pub returns-then-i-lt-NUM_FREE_VALUES : goal.returns-then-i-lt-NUM_FREE_VALUES
returns-then-i-lt-NUM_FREE_VALUES c = c.from-i.ensures ∙ int-few c.args.b (omega (arith, c.from-i.ensures, c.if-i-lt-NUM_FREE_VALUES.true))

pub returns-else-i-lt-NUM_FREE_VALUES : goal.returns-else-i-lt-NUM_FREE_VALUES
returns-else-i-lt-NUM_FREE_VALUES c =
    sum_is c.args.b c.from-i.result c.int4_to_long.result c.from-i.ensures c.int4_to_long.ensures c.if-i-lt-NUM_FREE_VALUES.false
