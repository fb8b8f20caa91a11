-- totalOrder is the order of the keys, and two patterns have two keys. Assumes nothing.
use mathlib.Core.Path.{◌≡◌, refl, sym}
use mathlib.Core.Logic.{◌⊎◌, inl, inr, ⊎_elim}
use mathlib.Core.Bool.{Bool, true, false, not, cond}
use Prim.Native.Nat.{ℕ, ◌+◌, ◌-◌, ◌%◌, ◌^◌, ◌≤◌, ◌<◌}
use native.Mathlib.Omega.{arith}
use lib.Dec.{T, leb, ltb, leb→le, nleb→lt}
use borrow.Author.Tests.{lt-ltb, le-ltb}
use Rattle.meaning.specs.Ieee754.{total_below}
use Rattle.meaning.proofs.Tests.{ltb-as-ltb}
use Rattle.ieee754.specs.TotalOrder.{total_key}

-- a test by what it says either way
pub same_test : (a b : Bool) → (T a → T b) → (T (not a) → T (not b)) → a ≡ b
same_test true true p q = refl
same_test true false p q = absurd (p tt)
same_test false true p q = absurd (q tt)
same_test false false p q = refl

-- by the sign of each: p and q say what the tests do
key-cases : (a b : ℕ) → a < 2 ^ 64 → b < 2 ^ 64 → (p q : Bool) → (T p → 2 ^ 63 ≤ a) → (T (not p) → a < 2 ^ 63) → (T q → 2 ^ 63 ≤ b) → (T (not q) → b < 2 ^ 63) → cond p (cond q (ltb (b % 2 ^ 63) (a % 2 ^ 63)) true) (cond q false (ltb a b)) ≡ ltb (cond p (2 ^ 64 - 1 - a) (2 ^ 63 + a)) (cond q (2 ^ 64 - 1 - b) (2 ^ 63 + b))
key-cases a b A B true true p np q nq =
    let h = p tt in
    let k = q tt in
    ltb-as-ltb (b % 2 ^ 63) (a % 2 ^ 63) (2 ^ 64 - 1 - a) (2 ^ 64 - 1 - b) (λ l. omega arith) (λ l. omega arith)
key-cases a b A B true false p np q nq =
    let h = p tt in
    let k = nq tt in
    sym (lt-ltb (2 ^ 64 - 1 - a) (2 ^ 63 + b) (omega arith))
key-cases a b A B false true p np q nq =
    let h = np tt in
    let k = q tt in
    sym (le-ltb (2 ^ 63 + a) (2 ^ 64 - 1 - b) (omega arith))
key-cases a b A B false false p np q nq = ltb-as-ltb a b (2 ^ 63 + a) (2 ^ 63 + b) (λ l. omega arith) (λ l. omega arith)

pub total-key : (a b : ℕ) → a < 2 ^ 64 → b < 2 ^ 64 → total_below a b ≡ ltb (total_key a) (total_key b)
unfolding total_below total_key
total-key a b A B =
    key-cases a b A B (leb (2 ^ 63) a) (leb (2 ^ 63) b) (leb→le (2 ^ 63) a) (nleb→lt (2 ^ 63) a) (leb→le (2 ^ 63) b) (nleb→lt (2 ^ 63) b)

-- a key is a number of 64 bits, and no other pattern has it
abbrev Key : ℕ → ℕ → Type 0
Key a k = ((2 ^ 63 ≤ a) × (k ≡ 2 ^ 64 - 1 - a)) ⊎ ((a < 2 ^ 63) × (k ≡ 2 ^ 63 + a))

key-is : (a : ℕ) → Key a (total_key a)
unfolding total_key
key-is a = go (leb (2 ^ 63) a) (leb→le (2 ^ 63) a) (nleb→lt (2 ^ 63) a)
  where
    go : (p : Bool) → (T p → 2 ^ 63 ≤ a) → (T (not p) → a < 2 ^ 63) → Key a (cond p (2 ^ 64 - 1 - a) (2 ^ 63 + a))
    go true h k = inl (h tt, refl)
    go false h k = inr (k tt, refl)

pub total-key-lt : (a : ℕ) → a < 2 ^ 64 → total_key a < 2 ^ 64
total-key-lt a A = elim (key-is a) [ inl k ↦ omega (arith, k.0, k.1) | inr k ↦ omega (arith, k.0, k.1) ]

pub total-key-same : (a b : ℕ) → a < 2 ^ 64 → b < 2 ^ 64 → total_key a ≡ total_key b → a ≡ b
total-key-same a b A B e = ⊎_elim (λ p. ⊎_elim (λ q. both-set p q) (λ q. set-clear p q) (key-is b)) (λ p. ⊎_elim (λ q. clear-set p q) (λ q. both-clear p q) (key-is b)) (key-is a)
  where
    both-set : (2 ^ 63 ≤ a) × (total_key a ≡ 2 ^ 64 - 1 - a) → (2 ^ 63 ≤ b) × (total_key b ≡ 2 ^ 64 - 1 - b) → a ≡ b
    both-set p q = omega (arith, p.0, p.1, q.0, q.1)

    set-clear : (2 ^ 63 ≤ a) × (total_key a ≡ 2 ^ 64 - 1 - a) → (b < 2 ^ 63) × (total_key b ≡ 2 ^ 63 + b) → a ≡ b
    set-clear p q = omega (arith, p.0, p.1, q.0, q.1)

    clear-set : (a < 2 ^ 63) × (total_key a ≡ 2 ^ 63 + a) → (2 ^ 63 ≤ b) × (total_key b ≡ 2 ^ 64 - 1 - b) → a ≡ b
    clear-set p q = omega (arith, p.0, p.1, q.0, q.1)

    both-clear : (a < 2 ^ 63) × (total_key a ≡ 2 ^ 63 + a) → (b < 2 ^ 63) × (total_key b ≡ 2 ^ 63 + b) → a ≡ b
    both-clear p q = omega (arith, p.0, p.1, q.0, q.1)

-- the two branches of `total_key`
pub key-clear : (a : ℕ) → a < 2 ^ 63 → a + 2 ^ 63 ≡ total_key a
key-clear a h = elim (key-is a) [ inl k ↦ omega (arith, h, k.0, k.1) | inr k ↦ omega (arith, h, k.0, k.1) ]

pub key_set : (a : ℕ) → 2 ^ 63 ≤ a → 2 ^ 64 - 1 - a ≡ total_key a
key_set a h = elim (key-is a) [ inl k ↦ omega (arith, h, k.0, k.1) | inr k ↦ omega (arith, h, k.0, k.1) ]
