-- The order of ℤ, beyond `lib.Signed`. Assumes nothing.
use mathlib.Core.Path.{◌≡◌, sym, ap, subst}
use mathlib.Core.Logic.{◌⊎◌}
use mathlib.Core.Bool.{Bool, true, false, not}
use native.Mathlib.Nat.{le_trans, le_antisymm, le_of_lt}
use lib.Dec.{T, leb→le, le→leb, ltb→lt, lt→ltb, nleb→lt}
use lib.IntN.{ℤ, pos, negsuc}
use lib.Signed.{lt_z, le_z, ◌≤ℤ◌, ◌<ℤ◌, lt_z_no}
use Rattle.meaning.proofs.Tests.{decided}

le-trans' : (a b c : ℤ) → T (le_z a b) → T (le_z b c) → T (le_z a c)
le-trans' (pos a) (pos b) (pos c) h k = le→leb a c (le_trans (leb→le a b h) (leb→le b c k))
le-trans' (pos a) (pos b) (negsuc c) h k = k
le-trans' (pos a) (negsuc b) c h k = absurd h
le-trans' (negsuc a) (pos b) (pos c) h k = tt
le-trans' (negsuc a) (pos b) (negsuc c) h k = absurd k
le-trans' (negsuc a) (negsuc b) (pos c) h k = tt
le-trans' (negsuc a) (negsuc b) (negsuc c) h k = le→leb c a (le_trans (leb→le c b k) (leb→le b a h))

pub ≤ℤ-trans : {a b c : ℤ} → a ≤ℤ b → b ≤ℤ c → a ≤ℤ c
≤ℤ-trans {a} {b} {c} h k = record { le = le-trans' a b c h.le k.le }

lt_le' : (a b : ℤ) → T (lt_z a b) → T (le_z a b)
lt_le' (pos a) (pos b) h = le→leb a b (le_of_lt (ltb→lt a b h))
lt_le' (pos a) (negsuc b) h = absurd h
lt_le' (negsuc a) (pos b) h = tt
lt_le' (negsuc a) (negsuc b) h = le→leb b a (le_of_lt (ltb→lt b a h))

pub <ℤ-≤ℤ : {a b : ℤ} → a <ℤ b → a ≤ℤ b
<ℤ-≤ℤ {a} {b} h = record { le = lt_le' a b h.lt }

antisym' : (a b : ℤ) → T (le_z a b) → T (le_z b a) → a ≡ b
antisym' (pos a) (pos b) h k = ap pos (le_antisymm (leb→le a b h) (leb→le b a k))
antisym' (pos a) (negsuc b) h k = absurd h
antisym' (negsuc a) (pos b) h k = absurd k
antisym' (negsuc a) (negsuc b) h k = ap negsuc (le_antisymm (leb→le a b k) (leb→le b a h))

pub ≤ℤ-antisym : {a b : ℤ} → a ≤ℤ b → b ≤ℤ a → a ≡ b
≤ℤ-antisym {a} {b} h k = antisym' a b h.le k.le

-- a test's answer, as code leaves it
pub le_yes : (a b : ℤ) → le_z a b ≡ true → a ≤ℤ b
le_yes a b e = record { le = subst T (sym e) tt }

nle : (a b : ℤ) → T (not (le_z a b)) → T (lt_z b a)
nle (pos a) (pos b) t = lt→ltb b a (nleb→lt a b t)
nle (pos a) (negsuc b) t = tt
nle (negsuc a) (pos b) t = t
nle (negsuc a) (negsuc b) t = lt→ltb a b (nleb→lt b a t)

pub le-no : (a b : ℤ) → le_z a b ≡ false → b <ℤ a
le-no a b e = record { lt = nle a b (subst (λ (z : Bool). T (not z)) (sym e) tt) }

pub lt_yes : (a b : ℤ) → lt_z a b ≡ true → a <ℤ b
lt_yes a b e = record { lt = subst T (sym e) tt }

pub lt_no : (a b : ℤ) → lt_z a b ≡ false → b ≤ℤ a
lt_no a b e = lt_z_no (subst (λ (z : Bool). T (not z)) (sym e) tt)

pub before-or : (a b : ℤ) → (lt_z a b ≡ true) ⊎ (lt_z a b ≡ false)
before-or a b = decided (lt_z a b)
