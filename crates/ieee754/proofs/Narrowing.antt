-- What `narrow` gives: it rounds a value's fraction to binary32, leaves what fits binary32, and keeps the order and the
-- sign. Assumes nothing.
use mathlib.Core.Path.{◌≡◌, refl, sym, ap, ◌∙◌, subst}
use Prim.Native.Nat.{ℕ, zero, suc, ◌+◌, ◌*◌, ◌^◌, ◌<◌}
use mathlib.Core.Bool.{Bool, true, false, not, cond, true≢false}
use lib.IntN.{ℤ}
use lib.Dec.{T, ltb}
use lib.Ieee.{Float, nan, inf, fin, Format, binary32, prec, emax, low, up, down, odd, units, round, neg, fits, is_nan, ne, le}
use lib.Ieee.Fits.{round_is, round-fits, nan-fits, inf-fits, neg-fits}
use lib.Ieee.Exact.{HasValue}
use lib.Ieee.Order.{round_mono}
use lib.Ieee.Scale.{round_same}
use lib.Ieee.Positive.{num, den, den_pos, value→cross}
use Rattle.meaning.specs.Ieee754.{narrow}
use Rattle.ieee754.specs.Nonneg.{nonneg, sign_clear}
use Rattle.ieee754.proofs.Nonneg.{nonneg-of-value, round-self}
use Rattle.ieee754.proofs.Ranges.{le→cross, round-clear}

pub narrow-is : (x : Float) → T (nonneg x) → narrow x ≡ round binary32 false (num x) (den x)
unfolding narrow
narrow-is nan p = absurd p
narrow-is (inf s) p = absurd p
narrow-is (fin true m e) p = absurd p
narrow-is (fin false m e) p = refl

-- by any fraction that the value equals
pub narrow_at : (x : Float) (a c : ℕ) → 0 < c → HasValue x false a c → narrow x ≡ round binary32 false a c
narrow_at x a c C h =
    narrow-is x (nonneg-of-value x a c h)
    ∙ round_same binary32 false (num x) (den x) a c (den_pos x) C (value→cross x a c h)

pub narrow-nan : narrow nan ≡ nan
unfolding narrow
narrow-nan = refl

pub narrow-inf : (s : Bool) → narrow (inf s) ≡ inf s
unfolding narrow
narrow-inf s = refl

pub equals_itself : (x : Float) → ne x x ≡ false → T (not (is_nan x))
unfolding ne is_nan
equals_itself nan h = absurd (true≢false h)
equals_itself (inf s) h = tt
equals_itself (fin s m e) h = tt

pub narrow-fits : (x : Float) → T (fits binary32 (narrow x))
unfolding narrow
narrow-fits nan = nan-fits binary32
narrow-fits (inf s) = inf-fits binary32 s
narrow-fits (fin s m e) = round-fits binary32 s (m * up e) (down e)

-- ---- the sign goes through
pub odd-neg : (d : ℕ) (s : Bool) (q k l : ℕ) → neg (odd d s q k l) ≡ odd d (not s) q k l
unfolding neg odd
odd-neg d s zero k l = refl
odd-neg d s (suc q) k l = refl

units-neg : (f : Format) (s : Bool) (q k : ℕ) → neg (units f s q k) ≡ units f (not s) q k
unfolding units neg
units-neg f s q k = go (ltb (q * 2 ^ k) (2 ^ (low f + suc (emax f))))
  where
    go : (b : Bool) → neg (cond b (odd (suc (prec f)) s q k (low f)) (inf s)) ≡ cond b (odd (suc (prec f)) (not s) q k (low f)) (inf (not s))
    go true = odd-neg (suc (prec f)) s q k (low f)
    go false = refl

round-neg : (f : Format) (s : Bool) (a c : ℕ) → neg (round f s a c) ≡ round f (not s) a c
round-neg f s a c = ap neg (round_is f s a c) ∙ units-neg f s _ _ ∙ sym (round_is f (not s) a c)

pub narrow-neg : (x : Float) → neg (narrow x) ≡ narrow (neg x)
unfolding narrow neg
narrow-neg nan = refl
narrow-neg (inf s) = refl
narrow-neg (fin s m e) = round-neg binary32 s (m * up e) (down e)

pub neg-fin : (s : Bool) (m : ℕ) (e : ℤ) → neg (fin s m e) ≡ fin (not s) m e
unfolding neg
neg-fin s m e = refl

pub narrow-clear : (x : Float) → T (sign_clear x) → T (sign_clear (narrow x))
unfolding narrow
narrow-clear nan p = absurd p
narrow-clear (inf s) p = p
narrow-clear (fin true m e) p = absurd p
narrow-clear (fin false m e) p = round-clear binary32 (m * up e) (down e)

-- ---- exact on what fits binary32
pub narrow_exact : (x : Float) → T (fits binary32 x) → narrow x ≡ x
narrow_exact nan F = narrow-nan
narrow_exact (inf s) F = narrow-inf s
narrow_exact (fin false m e) F = narrow-is (fin false m e) tt ∙ round-self binary32 (fin false m e) F tt
narrow_exact (fin true m e) F =
    let y = fin false m e in
    let G : T (fits binary32 y) = subst (λ (z : Float). T (fits binary32 z)) (neg-fin true m e) (neg-fits binary32 (fin true m e) F) in
    ap narrow (sym (neg-fin false m e)) ∙ sym (narrow-neg y) ∙ ap neg (narrow-is y tt ∙ round-self binary32 y G tt) ∙ neg-fin false m e

-- ---- monotone, where the sign is clear
le-inf : (x : Float) → T (sign_clear x) → T (le x (inf false))
unfolding le
le-inf nan p = absurd p
le-inf (inf true) p = absurd p
le-inf (inf false) p = tt
le-inf (fin s m e) p = tt

inf-not-le : (m : ℕ) (e : ℤ) → T (le (inf false) (fin false m e)) → ⊥
unfolding le
inf-not-le m e h = h

pub narrow-mono : (x y : Float) → T (sign_clear x) → T (sign_clear y) → T (le x y) → T (le (narrow x) (narrow y))
narrow-mono x nan p q h = absurd q
narrow-mono x (inf true) p q h = absurd q
narrow-mono x (fin true n d) p q h = absurd q
narrow-mono x (inf false) p q h = subst (λ (z : Float). T (le (narrow x) z)) (sym (narrow-inf false)) (le-inf (narrow x) (narrow-clear x p))
narrow-mono nan (fin false n d) p q h = absurd p
narrow-mono (inf true) (fin false n d) p q h = absurd p
narrow-mono (fin true m e) (fin false n d) p q h = absurd p
narrow-mono (inf false) (fin false n d) p q h = absurd (inf-not-le n d h)
narrow-mono (fin false m e) (fin false n d) p q h =
    let x = fin false m e in
    let y = fin false n d in
    subst (λ (z : Float). T (le z (narrow y))) (sym (narrow-is x tt))
    (subst (λ (z : Float). T (le (round binary32 false (num x) (den x)) z)) (sym (narrow-is y tt))
    (round_mono binary32 (num x) (den x) (num y) (den y) (den_pos x) (den_pos y) (le→cross x y tt tt h)))
