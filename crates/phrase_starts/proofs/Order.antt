-- Signed starts in order: a difference of two numbers, and lists that do not fall. Assumes nothing.
use mathlib.Core.Path.{◌≡◌, refl, ap, subst}
use mathlib.Core.Bool.{Bool, true, false, cond, not}
use mathlib.Core.List.{List, [], ◌∷◌, ◌++◌}
use Prim.Native.Nat.{ℕ, zero, suc, ◌+◌, ◌-◌, ◌≤◌, ◌<◌}
use native.Mathlib.Nat.{not-suc-le-zero}
use native.Mathlib.Omega.{arith}
use lib.Dec.{T, ltb, le→leb, ltb→lt, nltb→le}
use lib.IntN.{ℤ, pos, negsuc, sub_ℕ, ◌-ℤ◌}
use lib.ListN.{length, get_or}
use lib.Signed.{lt_z, le_z, ◌≤ℤ◌, ◌<ℤ◌, ≤ℤ_refl, <ℤ-≤ℤ_trans, <ℤ_irrefl}
use mir.Val.{SFits, to_z, of_z}
use mir.Syntax.{w32}
use mir.ValLaws.{to_z-of_z}
use Rattle.meaning.specs.Phrase.{eqℤ, multiplicity}
use Rattle.meaning.proofs.Signed.{≤ℤ-trans, ≤ℤ-antisym, lt_no}
use Rattle.meaning.proofs.Phrases.{eqℤ→eq}
use Rattle.phrase_starts.specs.Common.{AtLeast, Ascending}

-- neither of two is below the other
pub same : (a b : ℤ) → lt_z a b ≡ false → lt_z b a ≡ false → a ≡ b
same a b h k = ≤ℤ-antisym (lt_no b a k) (lt_no a b h)

-- the code tests the bits of two numbers, and so the numbers
pub tested : (a b : ℤ) (v : Bool) → SFits w32 a → SFits w32 b → lt_z (to_z w32 (of_z w32 a)) (to_z w32 (of_z w32 b)) ≡ v → lt_z a b ≡ v
tested a b v f g e = rw (to_z-of_z w32 a f, to_z-of_z w32 b g) at e

-- ---- a start
-- the code's difference is the paper's
pub difference : (p o : ℕ) → pos p -ℤ pos o ≡ sub_ℕ p o
difference p zero = go (ltb p 0) (ltb→lt p 0)
  where
    go : (b : Bool) → (T b → p < 0) → pos (p + 0) ≡ cond b (negsuc (0 - suc p)) (pos (p - 0))
    go true h = absurd (not-suc-le-zero (h tt))
    go false h = ap pos (omega arith)
difference p (suc o) = refl

-- a later position starts no earlier
pub difference-rises : (p q o : ℕ) → p ≤ q → sub_ℕ p o ≤ℤ sub_ℕ q o
difference-rises p q o h = record { le = go (ltb p o) (ltb q o) (ltb→lt p o) (nltb→le p o) (ltb→lt q o) (nltb→le q o) }
  where
    go : (b c : Bool) → (T b → p < o) → (T (not b) → o ≤ p) → (T c → q < o) → (T (not c) → o ≤ q) → T (le_z (cond b (negsuc (o - suc p)) (pos (p - o))) (cond c (negsuc (o - suc q)) (pos (q - o))))
    go true true hp np hq nq = le→leb (o - suc q) (o - suc p) (omega (arith, h))
    go true false hp np hq nq = tt
    go false true hp np hq nq = let x = np tt in let y = hq tt in absurd (omega (arith, h, x, y))
    go false false hp np hq nq = le→leb (p - o) (q - o) (omega (arith, h))

-- ---- lists that do not fall
at-least-less : {x y : ℤ} (ys : List ℤ) → x ≤ℤ y → AtLeast y ys → AtLeast x ys
unfolding AtLeast
at-least-less [] h a = tt
at-least-less (z ∷ zs) h a = (≤ℤ-trans h a.0, at-least-less zs h a.1)

-- an entry below the first is not there
absent : {y x : ℤ} (xs : List ℤ) → y <ℤ x → AtLeast x xs → multiplicity y xs ≡ 0
unfolding AtLeast multiplicity
absent [] h a = refl
absent {y} {x} (z ∷ zs) h a = go (eqℤ y z) (eqℤ→eq y z) (<ℤ-≤ℤ_trans h a.0) (absent zs h a.1)
  where
    go : (b : Bool) → (T b → y ≡ z) → y <ℤ z → multiplicity y zs ≡ 0 → cond b 1 0 + multiplicity y zs ≡ 0
    go true q l e = absurd (<ℤ_irrefl (subst (λ (w : ℤ). w <ℤ z) (q tt) l))
    go false q l e = omega (arith, e)

-- each entry at most the next one
pub ascending : (d : ℤ) (xs : List ℤ) → ((j : ℕ) → suc j < length xs → get_or xs j d ≤ℤ get_or xs (suc j) d) → Ascending xs
unfolding AtLeast Ascending
ascending d [] h = tt
ascending d (x ∷ []) h = (tt, tt)
ascending d (x ∷ y ∷ ys) h =
    let rest = ascending d (y ∷ ys) (λ j k. h (suc j) (omega (arith, k))) in
    let first = h 0 (omega arith) in
    ((first, at-least-less ys first rest.0), rest)

-- ---- parts of such a list
at-least-tail : (x : ℤ) (zs xs : List ℤ) → AtLeast x (zs ++ xs) → AtLeast x xs
unfolding AtLeast
at-least-tail x [] xs a = a
at-least-tail x (z ∷ zs) xs a = at-least-tail x zs xs a.1

at-least-front : (x : ℤ) (zs xs : List ℤ) → AtLeast x (zs ++ xs) → AtLeast x zs
unfolding AtLeast
at-least-front x [] xs a = tt
at-least-front x (z ∷ zs) xs a = (a.0, at-least-front x zs xs a.1)

at-least-without : (x y : ℤ) (zs xs : List ℤ) → AtLeast x (zs ++ y ∷ xs) → AtLeast x (zs ++ xs)
unfolding AtLeast
at-least-without x y [] xs a = a.1
at-least-without x y (z ∷ zs) xs a = (a.0, at-least-without x y zs xs a.1)

pub ascending-tail : (zs xs : List ℤ) → Ascending (zs ++ xs) → Ascending xs
unfolding Ascending
ascending-tail [] xs a = a
ascending-tail (z ∷ zs) xs a = ascending-tail zs xs a.1

pub ascending-front : (zs xs : List ℤ) → Ascending (zs ++ xs) → Ascending zs
unfolding Ascending
ascending-front [] xs a = tt
ascending-front (z ∷ zs) xs a = (at-least-front z zs xs a.0, ascending-front zs xs a.1)

-- one entry taken out
pub ascending-without : (y : ℤ) (zs xs : List ℤ) → Ascending (zs ++ y ∷ xs) → Ascending (zs ++ xs)
unfolding Ascending
ascending-without y [] xs a = a.1
ascending-without y (z ∷ zs) xs a = (at-least-without z y zs xs a.0, ascending-without y zs xs a.1)

-- an entry below the first of such a list stands nowhere in it
pub nowhere : {y x : ℤ} (xs : List ℤ) → y <ℤ x → Ascending (x ∷ xs) → multiplicity y (x ∷ xs) ≡ 0
unfolding AtLeast Ascending
nowhere {y} {x} xs h a = absent (x ∷ xs) h (≤ℤ_refl x, a.0)
