-- Bool's tests taken apart, and two numbers compared: what borrow.Author.Tests does not have. Assumes nothing.
use mathlib.Core.Path.{◌≡◌, refl, sym, ◌∙◌}
use mathlib.Core.Logic.{◌⊎◌, inl, inr}
use mathlib.Core.Bool.{Bool, true, false, ◌&&◌, ◌||◌, false≢true, true≢false}
use Prim.Native.Nat.{ℕ, ◌≤◌, ◌<◌}
use native.Mathlib.Decide.{dec_lt}
use native.Mathlib.Omega.{arith}
use lib.Dec.{ltb}
use borrow.Author.Tests.{lt-ltb, le-ltb}

-- ---- one of two
pub decided : (b : Bool) → (b ≡ true) ⊎ (b ≡ false)
decided true = inl refl
decided false = inr refl

pub cmp : (a b : ℕ) → (a < b) ⊎ (b ≤ a)
cmp a b = elim (dec_lt a b) as (λ _. (a < b) ⊎ (b ≤ a)) [ yes p ↦ inl p | no p ↦ inr (omega arith) ]

-- ---- both parts of a false `||`
pub or_left : (a b : Bool) → (a || b) ≡ false → a ≡ false
or_left true b e = e
or_left false b e = refl

pub or_right : (a b : Bool) → (a || b) ≡ false → b ≡ false
or_right true b e = absurd (false≢true (sym e))
or_right false b e = e

-- the parts of a longer one
pub or-3 : (a b c : Bool) → (a || b || c) ≡ false → (a ≡ false) × (b ≡ false) × (c ≡ false)
or-3 a b c e = let l = or_left (a || b) c e in (or_left a b l, or_right a b l, or_right (a || b) c e)

pub or-4 : (a b c d : Bool) → (a || b || c || d) ≡ false → (a ≡ false) × (b ≡ false) × (c ≡ false) × (d ≡ false)
or-4 a b c d e = let h = or-3 a b c (or_left (a || b || c) d e) in (h.0, h.1, h.2, or_right (a || b || c) d e)

-- ---- a `||` with a part that holds
pub true-left : (a b : Bool) → a ≡ true → (a || b) ≡ true
true-left a b p = rw p

pub true-right : (a b : Bool) → b ≡ true → (a || b) ≡ true
true-right true b q = refl
true-right false b q = q

-- ---- a false `&&` whose first part holds
pub and_second : (a b : Bool) → (a && b) ≡ false → a ≡ true → b ≡ false
and_second true b e g = e
and_second false b e g = absurd (true≢false (sym g))

-- ---- one test is another, where each outcome of the one is that of the other
pub ltb-as-ltb : (a b c d : ℕ) → (a < b → c < d) → (b ≤ a → d ≤ c) → ltb a b ≡ ltb c d
ltb-as-ltb a b c d f g = elim (cmp a b) as (λ _. ltb a b ≡ ltb c d) [
  | inl h ↦ lt-ltb a b h ∙ sym (lt-ltb c d (f h))
  | inr h ↦ le-ltb a b h ∙ sym (le-ltb c d (g h))
]
