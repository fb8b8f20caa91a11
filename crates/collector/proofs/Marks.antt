-- The mark and the least competitive score, through one collected document. Assumes nothing.
use mathlib.Core.Path.{◌≡◌, refl, sym, ap, ◌∙◌, subst}
use mathlib.Core.Logic.{inl, inr}
use mathlib.Core.Bool.{Bool, true, false, cond, ◌&&◌}
use Prim.Native.Nat.{ℕ, ◌+◌, ◌≤◌, ◌<◌, min}
use native.Mathlib.Nat.{eq-or-lt_of_le}
use native.Mathlib.Decide.{dec_lt}
use native.Mathlib.Omega.{arith}
use borrow.Author.Tests.{lt-ltb, le-ltb, le-leb, lt-leb, ltb-false}
use lib.Dec.{T, leb, ltb}
use lib.Ieee.{Float, inf, binary32, fits, to_bits, of_bits, lt}
use lib.Ieee.Bits.{of_bits-to_bits, of_bits-fits}
use Rattle.meaning.specs.Ieee754.{zero_float, next_up}
use Rattle.meaning.specs.Hits.{mark}
use Rattle.ieee754.specs.Nonneg.{sign_clear}
use Rattle.ieee754.proofs.Patterns.{clear-bits, clear-lt, clear-number, pattern-clear, pattern-back}
use Rattle.ieee754.proofs.Successor.{zero-fits, next-finite, next-infinite}
use Rattle.collector.specs.State.{competitive}

-- ---- nextUp of a value with a clear sign, by patterns
record Next (x : Float) : Type 0 where
  fits : T (fits binary32 (next_up x))
  clear : T (sign_clear (next_up x))
  bits : to_bits binary32 (next_up x) ≡ min (to_bits binary32 x + 1) 0x7f80_0000

next : (x : Float) → T (fits binary32 x) → T (sign_clear x) → Next x
next x F p = elim (eq-or-lt_of_le (clear-bits x F p)) [
  | inl e ↦
      let i = next-infinite x F e in
      record {
        fits = subst (λ (z : Float). T (fits binary32 z)) i F;
        clear = subst (λ (z : Float). T (sign_clear z)) i p;
        bits = ap (to_bits binary32) (sym i) ∙ omega (arith, e);
      }
  | inr l ↦
      let b = to_bits binary32 x in
      let i = next-finite x (clear-number x p) l in
      record {
        fits = subst (λ (z : Float). T (fits binary32 z)) i (of_bits-fits binary32 (b + 1));
        clear = subst (λ (z : Float). T (sign_clear z)) i (pattern-clear (b + 1) (omega (arith, l)));
        bits = ap (to_bits binary32) (sym i) ∙ pattern-back (b + 1) (omega (arith, l)) ∙ omega (arith, l);
      }
]

zero_bits : to_bits binary32 zero_float ≡ 0
unfolding to_bits
zero_bits = refl

-- the next score above one that is not negative is above 0
pub next-positive : (x : Float) → T (fits binary32 x) → T (sign_clear x) → lt zero_float (next_up x) ≡ true
next-positive x F p =
    let n = next x F p in
    clear-lt zero_float (next_up x) zero-fits n.fits tt n.clear ∙ lt-ltb (to_bits binary32 zero_float) (to_bits binary32 (next_up x)) (omega (arith, zero_bits, n.bits))

-- and the next one above minus infinity is not
pub next-lowest : lt zero_float (next_up (inf true)) ≡ false
unfolding lt next_up of_bits
next-lowest = refl

-- from a lower top score to a higher one the next score rises, or is the same
pub next-rises : (x y : Float) → T (fits binary32 x) → T (fits binary32 y) → T (sign_clear x) → T (sign_clear y) → to_bits binary32 x ≤ to_bits binary32 y → lt (next_up x) (next_up y) ≡ false → next_up x ≡ next_up y
next-rises x y F G p q l e =
    let m = next x F p in
    let n = next y G q in
    let k : to_bits binary32 (next_up y) ≤ to_bits binary32 (next_up x) = ltb-false (to_bits binary32 (next_up x)) (to_bits binary32 (next_up y)) (sym (clear-lt (next_up x) (next_up y) m.fits n.fits m.clear n.clear) ∙ e) in
    let s : to_bits binary32 (next_up x) ≡ to_bits binary32 (next_up y) = omega (arith, m.bits, n.bits, k, l) in
    sym (of_bits-to_bits binary32 (next_up x) m.fits) ∙ ap (of_bits binary32) s ∙ of_bits-to_bits binary32 (next_up y) n.fits

-- ---- the mark, by its two tests
pub mark-is : (k t n : ℕ) → mark k t n ≡ (ltb t n && leb k n)
unfolding mark
mark-is k t n = refl

both : {p q p' q' : Bool} → p ≡ p' → q ≡ q' → (p && q) ≡ (p' && q')
both {p} {q} {p'} {q'} e f = ap (λ (z : Bool). z && q) e ∙ ap (λ (z : Bool). p' && z) f

pub mark-early : (k t n : ℕ) → n ≤ t → mark k t n ≡ false
mark-early k t n h = mark-is k t n ∙ ap (λ (z : Bool). z && leb k n) (le-ltb t n h)

and-false : (p : Bool) → (p && false) ≡ false
and-false true = refl
and-false false = refl

pub mark-few : (k t n : ℕ) → n < k → mark k t n ≡ false
mark-few k t n h = mark-is k t n ∙ ap (λ (z : Bool). ltb t n && z) (lt-leb k n h) ∙ and-false (ltb t n)

pub mark_set : (k t n : ℕ) → t < n → k ≤ n → mark k t n ≡ true
mark_set k t n h l = mark-is k t n ∙ both (lt-ltb t n h) (le-leb k n l)

-- what `updated` makes of a threshold test, a least competitive score and a mark
abbrev pub new_least : Bool → Float → Float → Float
new_least past least top = cond (past && lt least (next_up top)) (next_up top) least

abbrev pub new_mark : Bool → Float → Float → Bool → Bool
new_mark past least top marked = cond (past && lt least (next_up top)) true marked

-- the least competitive score and the mark are those of n documents, with this top score
pub record Told (k t n : ℕ) (top low : Float) (m : Bool) : Type 0 where
  pub least : low ≡ competitive (mark k t n) top
  pub marked : m ≡ mark k t n

told_is : {k t n : ℕ} {top low : Float} {m v : Bool} → mark k t n ≡ v → m ≡ v → low ≡ competitive v top → Told k t n top low m
told_is {k} {t} {n} {top} {low} {m} {v} e f g = record { least = g ∙ ap (λ (z : Bool). competitive z top) (sym e); marked = f ∙ sym e }

pub least-of : {k t n : ℕ} {top low : Float} {m v : Bool} → Told k t n top low m → mark k t n ≡ v → low ≡ competitive v top
least-of {k} {t} {n} {top} d e = d.least ∙ ap (λ (z : Bool). competitive z top) e

-- ---- a document that enters: `old` is the top score before
module _ (k t n : ℕ) (old top low : Float) (m : Bool) (d : Told k t n old low m) where
  abbrev past : Bool
  past = ltb t (n + 1)

  early : n + 1 ≤ t → Told k t (n + 1) top (new_least past low top) (new_mark past low top m)
  early h =
      let e : past ≡ false = le-ltb t (n + 1) h in
      let z = mark-early k t n (omega (arith, h)) in
      told_is (mark-early k t (n + 1) h) (ap (λ (p : Bool). new_mark p low top m) e ∙ d.marked ∙ z) (ap (λ (p : Bool). new_least p low top) e ∙ least-of d z)

  -- before every place is held
  pub told-few : n + 1 < k → top ≡ inf true → Told k t (n + 1) top (new_least past low top) (new_mark past low top m)
  told-few h e =
      let z = mark-few k t n (omega (arith, h)) in
      let u : lt low (next_up top) ≡ false = ap (λ (x : Float). lt x (next_up top)) (least-of d z) ∙ ap (λ (x : Float). lt zero_float (next_up x)) e ∙ next-lowest in
      let f : (past && lt low (next_up top)) ≡ false = ap (λ (b : Bool). past && b) u ∙ and-false past in
      told_is (mark-few k t (n + 1) h) (ap (λ (b : Bool). cond b true m) f ∙ d.marked ∙ z) (ap (λ (b : Bool). cond b (next_up top) low) f ∙ least-of d z)

  rises : t < n + 1 → k ≤ n + 1 → lt low (next_up top) ≡ true → Told k t (n + 1) top (new_least past low top) (new_mark past low top m)
  rises h l u =
      let f : (past && lt low (next_up top)) ≡ true = both (lt-ltb t (n + 1) h) u in
      told_is (mark_set k t (n + 1) h l) (ap (λ (b : Bool). cond b true m) f) (ap (λ (b : Bool). cond b (next_up top) low) f)

  stays : t < n + 1 → k ≤ n + 1 → lt low (next_up top) ≡ false → m ≡ true → low ≡ next_up top → Told k t (n + 1) top (new_least past low top) (new_mark past low top m)
  stays h l u g e =
      let f : (past && lt low (next_up top)) ≡ false = both (lt-ltb t (n + 1) h) u in
      told_is (mark_set k t (n + 1) h l) (ap (λ (b : Bool). cond b true m) f ∙ g) (ap (λ (b : Bool). cond b (next_up top) low) f ∙ e)

  -- once every place is held
  pub told-full : k ≤ n + 1 → T (fits binary32 top) → T (sign_clear top) → (k ≤ n → T (fits binary32 old) × (T (sign_clear old) × (to_bits binary32 old ≤ to_bits binary32 top)))
      → Told k t (n + 1) top (new_least past low top) (new_mark past low top m)
  told-full l F p o = elim (dec_lt t (n + 1)) [
    | no q ↦ early (omega (arith, q))
    | yes h ↦ elim (dec_lt n k) [
      | yes q ↦ first h (mark-few k t n q)
      | no q ↦ elim (dec_lt t n) [
        | no r ↦ first h (mark-early k t n (omega (arith, r)))
        | yes r ↦ again h (mark_set k t n r (omega (arith, q))) (o (omega (arith, q))) (lt low (next_up top)) refl
      ]
    ]
  ]
    where
      first : t < n + 1 → mark k t n ≡ false → Told k t (n + 1) top (new_least past low top) (new_mark past low top m)
      first h z = rises h l (ap (λ (x : Float). lt x (next_up top)) (least-of d z) ∙ next-positive top F p)

      again : t < n + 1 → mark k t n ≡ true → T (fits binary32 old) × (T (sign_clear old) × (to_bits binary32 old ≤ to_bits binary32 top)) → (u : Bool) → lt low (next_up top) ≡ u → Told k t (n + 1) top (new_least past low top) (new_mark past low top m)
      again h z o true e = rises h l e
      again h z o false e =
          stays h l e (d.marked ∙ z) (least-of d z ∙ next-rises old top o.0 F o.1.0 p o.1.1 (ap (λ (x : Float). lt x (next_up top)) (sym (least-of d z)) ∙ e))

-- ---- a document that does not enter: every place is held, and the top score stays
module _ (k t n : ℕ) (top low : Float) (m : Bool) (d : Told k t n top low m) (l : k ≤ n) where
  pub told_at : n ≡ t → T (fits binary32 top) → T (sign_clear top) → Told k t (n + 1) top (new_least (ltb t (n + 1)) low top) (new_mark (ltb t (n + 1)) low top m)
  told_at e F p = told-full k t n top top low m d (omega (arith, l)) F p (λ h. (F, (p, omega arith)))

  pub told-past : (n ≡ t → ⊥) → Told k t (n + 1) top low m
  told-past e = elim (dec_lt t n) [
    | yes h ↦ told_is (mark_set k t (n + 1) (omega (arith, h)) (omega (arith, l))) (d.marked ∙ mark_set k t n h l) (least-of d (mark_set k t n h l))
    | no h ↦ told_is (mark-early k t (n + 1) (omega (arith, h, e))) (d.marked ∙ mark-early k t n (omega (arith, h))) (least-of d (mark-early k t n (omega (arith, h))))
  ]
