-- Each kind of lower end lets in the keys from one key on; one that excludes the largest key lets in none.
use Rattle.std.proofs.Common.{refl, arith}
use Rattle.column_keys.proofs.KeyOrder.{lower-unbounded, lower-included, lower-excluded, lower-nothing}
use Rattle.column_keys.proofs.keys.lower_keys.Goals as goal

pub returns-in-Included : goal.returns-in-Included
returns-in-Included c = λ k h. rw c.in-Included.is (lower-included 1 _ k h refl)

pub returns-in-Excluded : goal.returns-in-Excluded
returns-in-Excluded c = λ k h. rw c.in-Excluded.is (lower-excluded 2 _ k h (λ z. omega arith) (λ o. omega arith))

pub returns-in-Excluded-2 : goal.returns-in-Excluded-2
returns-in-Excluded-2 c = λ k h. rw c.in-Excluded.is (lower-nothing 2 _ k h (λ z. omega arith) (λ o. omega arith) (omega (arith, c.if-key-lt18446744073709551615.false)))

pub returns-in-Unbounded : goal.returns-in-Unbounded
returns-in-Unbounded c = λ k h. rw c.in-Unbounded.is (lower-unbounded 0 0 k h refl)
