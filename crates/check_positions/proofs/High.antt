-- The high bits of an or, and differences that wrap: what the loops over a run gather. Assumes nothing.
use Rattle.std.proofs.Common.{◌≡◌, ℕ, ◌+◌, ◌%◌, ◌^◌, ◌<◌, ◌≤◌, Bool, true, false, ◌||◌, eqb, ltb, leb, sym, refl, ap, ◌∙◌, ⊎_elim, arith, le-ltb, lt-ltb, eq-eqb, ne_eqb, le-leb}
use mathlib.Core.Bool.{or-true}
use lib.Bits.{bit_or, or_lt, or_comm, or_add_and, and_le_r}
use borrow.Author.Tests.{lt-leb}
use Rattle.meaning.proofs.Tests.{cmp}

pub or-ge : (a b : ℕ) → a ≤ bit_or a b
or-ge a b = omega (arith, or_add_and a b, and_le_r a b)

-- an or reaches 2 ^ k where one of the two does
pub high-or : (k a b : ℕ) → leb (2 ^ k) (bit_or a b) ≡ (leb (2 ^ k) a || leb (2 ^ k) b)
high-or k a b =
    ⊎_elim (λ (l : a < 2 ^ k). ⊎_elim (λ (g : b < 2 ^ k). rw (lt-leb _ _ l, lt-leb _ _ g, lt-leb _ _ (or_lt k a b l g))) (λ (g : 2 ^ k ≤ b). right g) (cmp b (2 ^ k))) (λ (l : 2 ^ k ≤ a). left l) (cmp a (2 ^ k))
  where
    left : 2 ^ k ≤ a → leb (2 ^ k) (bit_or a b) ≡ (leb (2 ^ k) a || leb (2 ^ k) b)
    left l = let h : 2 ^ k ≤ bit_or a b = omega (arith, or-ge a b) in rw (le-leb _ _ l, le-leb _ _ h)

    right : 2 ^ k ≤ b → leb (2 ^ k) (bit_or a b) ≡ (leb (2 ^ k) a || leb (2 ^ k) b)
    right g = let h : 2 ^ k ≤ bit_or a b = omega (arith, or-ge b a, or_comm a b) in rw (le-leb _ _ g, le-leb _ _ h, or-true)

-- r is v - f where the word wraps: its high bit is set where v is below f, as long as neither is above 2 ^ 31
step-flag : (v f r : ℕ) → f ≤ 2147483648 → (r + f) % 4294967296 ≡ v → r < 4294967296 → (leb 2147483648 v || leb 2147483648 r) ≡ (leb 2147483648 v || ltb v f)
step-flag v f r h e l =
    ⊎_elim (λ (g : v < 2147483648). ap (λ (b : Bool). leb 2147483648 v || b) (⊎_elim (λ (m : v < f). let k : 2147483648 ≤ r = omega arith in le-leb _ _ k ∙ sym (lt-ltb _ _ m)) (λ (m : f ≤ v). let k : r < 2147483648 = omega arith in lt-leb _ _ k ∙ sym (le-ltb _ _ m)) (cmp v f))) (λ (g : 2147483648 ≤ v). rw (le-leb _ _ g)) (cmp v 2147483648)

-- a turn that gathers v and v - f
pub step-turn : (s v f r : ℕ) → (leb 2147483648 s ≡ false → f ≤ 2147483648) → (r + f) % 4294967296 ≡ v → r < 4294967296 → leb 2147483648 (bit_or s (bit_or v r)) ≡ (leb 2147483648 s || (leb 2147483648 v || ltb v f))
step-turn s v f r h e l = high-or 31 s (bit_or v r) ∙ ap (λ (b : Bool). leb 2147483648 s || b) (high-or 31 v r) ∙ go (leb 2147483648 s) h
  where
    go : (b : Bool) → (b ≡ false → f ≤ 2147483648) → (b || (leb 2147483648 v || leb 2147483648 r)) ≡ (b || (leb 2147483648 v || ltb v f))
    go true k = refl
    go false k = step-flag v f r (k refl) e l

-- a frequency less 1
pub frequency-flag : (v r : ℕ) → (r + 1) % 4294967296 ≡ v → r < 4294967296 → leb 16777216 r ≡ (eqb v 0 || ltb 16777216 v)
frequency-flag v r e l =
    ⊎_elim (λ (g : v < 1). let z : v ≡ 0 = omega arith in let k : 16777216 ≤ r = omega arith in rw (le-leb _ _ k, eq-eqb _ _ z)) (λ (g : 1 ≤ v). let z : v ≡ 0 → ⊥ = λ w. omega arith in rw (ne_eqb _ _ z) (⊎_elim (λ (m : 16777216 < v). let k : 16777216 ≤ r = omega arith in le-leb _ _ k ∙ sym (lt-ltb _ _ m)) (λ (m : v ≤ 16777216). let k : r < 16777216 = omega arith in lt-leb _ _ k ∙ sym (le-ltb _ _ m)) (cmp 16777216 v))) (cmp v 1)
