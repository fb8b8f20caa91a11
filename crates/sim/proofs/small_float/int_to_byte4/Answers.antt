-- Lengths below 24 are their own bytes; any other's byte is 24 more than the code of the length less 24.
use Rattle.std.proofs.Common.{◌≡◌, ℕ, ◌+◌, ◌-◌, ◌≤◌, ap, ◌∙◌, arith}
use Rattle.meaning.specs.SmallFloat.{long_to_int4, int_to_byte4}
use Rattle.sim.proofs.Codes.{byte-few, byte-many, int_to_byte4-lt}
use Rattle.sim.proofs.small_float.int_to_byte4.Goals as goal

-- the sum is the byte's number
sum_is : (i k n : ℕ) → k ≡ i - 24 → n ≡ long_to_int4 k → 24 ≤ i → 24 + n ≡ int_to_byte4 i
sum_is i k n e g h = ap (λ (z : ℕ). 24 + z) (g ∙ ap long_to_int4 e) ∙ byte-many i h

pub overflow_add-result : goal.overflow_add-result
overflow_add-result c =
    omega (arith, sum_is c.args.i c.from.result c.long_to_int4.result c.from.ensures c.long_to_int4.ensures c.if-i-lt-NUM_FREE_VALUES.false, int_to_byte4-lt c.args.i c.requires)

pub overflow_cast-result-else-i-lt-NUM_FREE_VALUES :
    goal.overflow_cast-result-else-i-lt-NUM_FREE_VALUES
overflow_cast-result-else-i-lt-NUM_FREE_VALUES c =
    omega (arith, sum_is c.args.i c.from.result c.long_to_int4.result c.from.ensures c.long_to_int4.ensures c.if-i-lt-NUM_FREE_VALUES.false, int_to_byte4-lt c.args.i c.requires)

pub returns-then-i-lt-NUM_FREE_VALUES : goal.returns-then-i-lt-NUM_FREE_VALUES
returns-then-i-lt-NUM_FREE_VALUES c = byte-few c.args.i c.if-i-lt-NUM_FREE_VALUES.true

pub returns-else-i-lt-NUM_FREE_VALUES : goal.returns-else-i-lt-NUM_FREE_VALUES
returns-else-i-lt-NUM_FREE_VALUES c =
    sum_is c.args.i c.from.result c.long_to_int4.result c.from.ensures c.long_to_int4.ensures c.if-i-lt-NUM_FREE_VALUES.false
