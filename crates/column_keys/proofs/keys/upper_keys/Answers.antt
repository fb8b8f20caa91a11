-- Each kind of upper end lets in the keys up to one key; one that excludes key 0 lets in none.
use Rattle.std.proofs.Common.{refl, arith}
use Rattle.column_keys.proofs.KeyOrder.{upper-unbounded, upper-included, upper-excluded, upper-nothing}
use Rattle.column_keys.proofs.keys.upper_keys.Goals as goal

pub returns-in-Included : goal.returns-in-Included
returns-in-Included c = λ k h. rw c.in-Included.is (upper-included 1 _ k h refl)

pub returns-in-Excluded : goal.returns-in-Excluded
returns-in-Excluded c = λ k h. rw c.in-Excluded.is (upper-excluded 2 _ k h (λ z. omega arith) (λ o. omega arith) (omega (arith, c.if-key-gt0.true)))

pub returns-in-Excluded-2 : goal.returns-in-Excluded-2
returns-in-Excluded-2 c = λ k h. rw c.in-Excluded.is (upper-nothing 2 _ k h (λ z. omega arith) (λ o. omega arith) (omega (arith, c.if-key-gt0.false)))

pub returns-in-Unbounded : goal.returns-in-Unbounded
returns-in-Unbounded c = λ k h. rw c.in-Unbounded.is (upper-unbounded 0 0 k h refl)
