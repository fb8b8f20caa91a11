-- Ranges of floats that are finite and not negative, and what an operation makes of them: its result lies between its
-- results at the ends, if the upper of these is finite. Assumes nothing.
use mathlib.Core.Path.{◌≡◌, refl, sym, ap, ◌∙◌, subst}
use mathlib.Core.Logic.{◌⊎◌, inl, inr}
use Prim.Native.Nat.{ℕ, suc, ◌+◌, ◌-◌, ◌*◌, ◌^◌, ◌≤◌, ◌<◌}
use native.Mathlib.Nat.{le_refl, le_trans, le_of_eq, le_of_lt, lt_of_lt_of_le, not-le_of_lt, add_comm, add-mul, mul_comm, mul_assoc, mul_left_comm, mul-le-mul_right, mul-le-mul, mul-pos, mul-mul-mul_comm, add-le-add}
use native.Mathlib.Omega.{arith}
use mathlib.Core.Bool.{Bool, true, false, ◌&&◌, ◌||◌, cond}
use lib.IntN.{ℤ}
use lib.Dec.{T, ltb, eqb, ltb→lt, eqb→eq}
use lib.Ieee.{Float, nan, inf, fin, Format, binary64, prec, emax, low, up, down, odd, units, round, sum, add, sub, mul, div, le}
use lib.Ieee.Fits.{and_l, round_is}
use lib.Ieee.Exact.{odd_sign}
use lib.Ieee.Order.{le_of_values, round_mono, kept, drop}
use lib.Ieee.Positive.{num, den, den_pos, first_pos}
use Rattle.ieee754.specs.Nonneg.{nonneg, sign_clear}
use Rattle.ieee754.proofs.Nonneg.{own_value, nonneg-of-value}
use Rattle.ieee754.proofs.Patterns.{le_is, nonneg-clear}

-- finite, not negative, and from lo to hi
pub record Within (lo x hi : Float) : Type 0 where
  pub sign : T (nonneg x)
  pub least : num lo * den x ≤ num x * den lo
  pub most : num x * den hi ≤ num hi * den x

-- ---- the order, as one of fractions
or_split : (a b : Bool) → T (a || b) → T a ⊎ T b
or_split true b t = inl tt
or_split false b t = inr t

lt-or-eq : (a b : ℕ) → T (ltb a b || (eqb a b && true)) → a ≤ b
lt-or-eq a b t = elim (or_split (ltb a b) (eqb a b && true) t) [ inl u ↦ le_of_lt (ltb→lt a b u) | inr u ↦ le_of_eq (eqb→eq a b (and_l (eqb a b) true u)) ]

pub le→cross : (x y : Float) → T (nonneg x) → T (nonneg y) → T (le x y) → num x * den y ≤ num y * den x
le→cross x y p q h = lt-or-eq (num x * den y) (num y * den x) (subst T (le_is x y p q) h)

pub cross→le : (x y : Float) → T (nonneg x) → T (nonneg y) → num x * den y ≤ num y * den x → T (le x y)
cross→le x y p q h = le_of_values x y (num x) (den x) (num y) (den y) (den_pos x) (den_pos y) (own_value x p) (own_value y q) h

-- ---- what `round f false` gives is an infinity above zero, or is `nonneg`
units-clear : (f : Format) (q k : ℕ) → T (sign_clear (units f false q k))
unfolding units
units-clear f q k = go (ltb (q * 2 ^ k) (2 ^ (low f + suc (emax f))))
  where
    go : (b : Bool) → T (sign_clear (cond b (odd (suc (prec f)) false q k (low f)) (inf false)))
    go true =
        let x = odd (suc (prec f)) false q k (low f) in
        nonneg-clear x (nonneg-of-value x (q * 2 ^ k) (2 ^ low f) (odd_sign (suc (prec f)) false q k (low f)))
    go false = tt

pub round-clear : (f : Format) (a b : ℕ) → T (sign_clear (round f false a b))
round-clear f a b = subst (λ (z : Float). T (sign_clear z)) (sym (round_is f false a b)) (units-clear f (kept (prec f) (a * 2 ^ low f) b) (drop (prec f) (a * 2 ^ low f) b))

under : (z hi : Float) → T (sign_clear z) → T (nonneg hi) → T (le z hi) → T (nonneg z)
unfolding le
under nan hi a p h = absurd a
under (inf true) hi a p h = absurd a
under (inf false) nan a p h = absurd p
under (inf false) (inf t) a p h = absurd p
under (inf false) (fin t n d) a p h = absurd h
under (fin s m e) hi a p h = a

-- ---- a / b rounded is nonneg, and at most c / d rounded, if that is finite
module _ (f : Format) (a b c d : ℕ) (B : 0 < b) (D : 0 < d) (h : a * d ≤ c * b) where
  pub round-nonneg : T (nonneg (round f false c d)) → T (nonneg (round f false a b))
  round-nonneg p = under (round f false a b) (round f false c d) (round-clear f a b) p (round_mono f a b c d B D h)

  pub round-cross : T (nonneg (round f false c d)) → num (round f false a b) * den (round f false c d) ≤ num (round f false c d) * den (round f false a b)
  round-cross p = le→cross (round f false a b) (round f false c d) (round-nonneg p) p (round_mono f a b c d B D h)

-- ---- the operations, by the operands' fractions
-- both are finite and not negative
both_finite : (P : Float → Float → Type 0) → ((m : ℕ) (e : ℤ) (n : ℕ) (d : ℤ) → P (fin false m e) (fin false n d))
    → (x y : Float) → T (nonneg x) → T (nonneg y) → P x y
both_finite P h nan y p q = absurd p
both_finite P h (inf s) y p q = absurd p
both_finite P h (fin true m e) y p q = absurd p
both_finite P h (fin false m e) nan p q = absurd q
both_finite P h (fin false m e) (inf t) p q = absurd q
both_finite P h (fin false m e) (fin true n d) p q = absurd q
both_finite P h (fin false m e) (fin false n d) p q = h m e n d

pub add_is : (f : Format) (x y : Float) → T (nonneg x) → T (nonneg y) → add f x y ≡ round f false (num x * den y + num y * den x) (den x * den y)
unfolding add sum
add_is f = both_finite (λ x y. add f x y ≡ round f false (num x * den y + num y * den x) (den x * den y)) (λ m e n d. refl)

pub mul_is : (f : Format) (x y : Float) → T (nonneg x) → T (nonneg y) → mul f x y ≡ round f false (num x * num y) (den x * den y)
unfolding mul
mul_is f = both_finite (λ x y. mul f x y ≡ round f false (num x * num y) (den x * den y)) (λ m e n d. refl)

pub div_is : (f : Format) (x y : Float) → T (nonneg x) → T (nonneg y) → 0 < num y → div f x y ≡ round f false (num x * den y) (num y * den x)
unfolding div
div_is f = both_finite (λ x y. 0 < num y → div f x y ≡ round f false (num x * den y) (num y * den x)) divided
  where
    none : (a : ℕ) → a ≡ 0 → 0 < a → ⊥
    none a e h = omega arith

    divided : (m : ℕ) (e : ℤ) (n : ℕ) (d : ℤ) → 0 < n * up d → div f (fin false m e) (fin false n d) ≡ round f false (m * up e * down d) (n * up d * down e)
    divided m e n d h = go (eqb n 0) (eqb→eq n 0)
      where
        go : (b : Bool) → (T b → n ≡ 0) → cond b (cond (eqb m 0) nan (inf false)) (round f false (m * up e * down d) (n * up d * down e)) ≡ round f false (m * up e * down d) (n * up d * down e)
        go true z = absurd (none n (z tt) (first_pos n (up d) h))
        go false z = refl

-- addition of such values is commutative
pub add-comm : (x y : Float) → T (nonneg x) → T (nonneg y) → add binary64 x y ≡ add binary64 y x
add-comm x y p q =
    add_is binary64 x y p q
    ∙ ap (λ (n : ℕ). round binary64 false n (den x * den y)) (add_comm (num x * den y) (num y * den x))
    ∙ ap (λ (n : ℕ). round binary64 false (num y * den x + num x * den y) n) (mul_comm (den x) (den y))
    ∙ sym (add_is binary64 y x q p)

-- a sum or a product of two such values has the sign clear, if only as plus infinity
pub add-clear : (f : Format) (x y : Float) → T (nonneg x) → T (nonneg y) → T (sign_clear (add f x y))
add-clear f x y p q = subst (λ (z : Float). T (sign_clear z)) (sym (add_is f x y p q)) (round-clear f (num x * den y + num y * den x) (den x * den y))

pub mul-clear : (f : Format) (x y : Float) → T (nonneg x) → T (nonneg y) → T (sign_clear (mul f x y))
mul-clear f x y p q = subst (λ (z : Float). T (sign_clear z)) (sym (mul_is f x y p q)) (round-clear f (num x * num y) (den x * den y))

pick : (f : Format) (a b c : ℕ) → b ≤ a → sum f false a true b c ≡ round f false (a - b) c
unfolding sum
pick f a b c h = go (ltb a b) (ltb→lt a b)
  where
    go : (t : Bool) → (T t → a < b) → cond t (round f true (b - a) c) (round f false (a - b) c) ≡ round f false (a - b) c
    go true k = absurd (not-le_of_lt (k tt) h)
    go false k = refl

opened : (f : Format) (m : ℕ) (e : ℤ) (n : ℕ) (d : ℤ) → sub f (fin false m e) (fin false n d) ≡ sum f false (m * up e * down d) true (n * up d * down e) (down e * down d)
unfolding sub
opened f m e n d = refl

pub sub_is : (f : Format) (x y : Float) → T (nonneg x) → T (nonneg y) → num y * den x ≤ num x * den y → sub f x y ≡ round f false (num x * den y - num y * den x) (den x * den y)
sub_is f nan y p q h = absurd p
sub_is f (inf s) y p q h = absurd p
sub_is f (fin true m e) y p q h = absurd p
sub_is f (fin false m e) nan p q h = absurd q
sub_is f (fin false m e) (inf t) p q h = absurd q
sub_is f (fin false m e) (fin true n d) p q h = absurd q
sub_is f (fin false m e) (fin false n d) p q h = opened f m e n d ∙ pick f (m * up e * down d) (n * up d * down e) (down e * down d) h

-- ---- a/p ≤ b/q and c/r ≤ d/s
module _ (a p b q c r d s : ℕ) (h : a * q ≤ b * p) (k : c * s ≤ d * r) where
  sum-cross : (a * r + c * p) * (q * s) ≤ (b * s + d * q) * (p * r)
  sum-cross =
      le_trans (le_of_eq (add-mul (a * r) (c * p) (q * s)))
      (le_trans (add-le-add
      (le_trans (le_of_eq (mul-mul-mul_comm a r q s)) (le_trans (mul-le-mul_right (r * s) h) (le_of_eq l)))
      (le_trans (le_of_eq (ap (λ (z : ℕ). c * p * z) (mul_comm q s) ∙ mul-mul-mul_comm c p s q)) (le_trans (mul-le-mul_right (p * q) k) (le_of_eq m))))
      (le_of_eq (sym (add-mul (b * s) (d * q) (p * r)))))
    where
      l : b * p * (r * s) ≡ b * s * (p * r)
      l = simp (mul_assoc, mul_comm, mul_left_comm)

      m : d * r * (p * q) ≡ d * q * (p * r)
      m = simp (mul_assoc, mul_comm, mul_left_comm)

  product-cross : a * c * (q * s) ≤ b * d * (p * r)
  product-cross = le_trans (le_of_eq (mul-mul-mul_comm a c q s)) (le_trans (mul-le-mul h k) (le_of_eq (mul-mul-mul_comm b p d r)))

  -- a/p by d/s is at most b/q by c/r
  quotient-cross : a * s * (c * q) ≤ b * r * (d * p)
  quotient-cross = le_trans (le_of_eq l) (le_trans (mul-le-mul h k) (le_of_eq m))
    where
      l : a * s * (c * q) ≡ a * q * (c * s)
      l = simp (mul_assoc, mul_comm, mul_left_comm)

      m : b * p * (d * r) ≡ b * r * (d * p)
      m = simp (mul_assoc, mul_comm, mul_left_comm)

-- ---- ranges
-- lo and hi are finite and not negative
abbrev Ends : Float → Float → Type 0
Ends lo hi = T (nonneg lo) × T (nonneg hi)

-- a rounded fraction a / b, between two others
pub round-within : (f : Format) (a b c d e g : ℕ) → 0 < b → 0 < d → 0 < g → c * b ≤ a * d → a * g ≤ e * b → T (nonneg (round f false e g)) → Within (round f false c d) (round f false a b) (round f false e g)
round-within f a b c d e g B D G h k p =
    let q : T (nonneg (round f false a b)) = round-nonneg f a b e g B G k p in
    record { sign = q; least = round-cross f c d a b D B h q; most = round-cross f a b e g B G k p }

pub within-self : (x : Float) → T (nonneg x) → Within x x x
within-self x p = record { sign = p; least = le_refl (num x * den x); most = le_refl (num x * den x) }

moved : {l x h l' x' h' : Float} → l ≡ l' → x ≡ x' → h ≡ h' → Within l' x' h' → Within l x h
moved {l} {x} {h} {l'} {x'} {h'} a b c w =
    subst (λ (z : Float). Within z x h) (sym a) (subst (λ (z : Float). Within l' z h) (sym b) (subst (λ (z : Float). Within l' x' z) (sym c) w))

module _ (f : Format) {lo x hi lo' y hi' : Float} (E : Ends lo hi) (E' : Ends lo' hi') (i : Within lo x hi) (j : Within lo' y hi') where
  pub add-within : T (nonneg (add f hi hi')) → Within (add f lo lo') (add f x y) (add f hi hi')
  add-within p =
      let a = add_is f x y i.sign j.sign in
      let b = add_is f lo lo' E.0 E'.0 in
      let c = add_is f hi hi' E.1 E'.1 in
      moved b a c
      (round-within f (num x * den y + num y * den x) (den x * den y) (num lo * den lo' + num lo' * den lo) (den lo * den lo') (num hi * den hi' + num hi' * den hi) (den hi * den hi')
      (mul-pos (den_pos x) (den_pos y)) (mul-pos (den_pos lo) (den_pos lo')) (mul-pos (den_pos hi) (den_pos hi'))
      (sum-cross (num lo) (den lo) (num x) (den x) (num lo') (den lo') (num y) (den y) i.least j.least)
      (sum-cross (num x) (den x) (num hi) (den hi) (num y) (den y) (num hi') (den hi') i.most j.most)
      (subst (λ (z : Float). T (nonneg z)) c p))

  pub mul-within : T (nonneg (mul f hi hi')) → Within (mul f lo lo') (mul f x y) (mul f hi hi')
  mul-within p =
      let a = mul_is f x y i.sign j.sign in
      let b = mul_is f lo lo' E.0 E'.0 in
      let c = mul_is f hi hi' E.1 E'.1 in
      moved b a c
      (round-within f (num x * num y) (den x * den y) (num lo * num lo') (den lo * den lo') (num hi * num hi') (den hi * den hi')
      (mul-pos (den_pos x) (den_pos y)) (mul-pos (den_pos lo) (den_pos lo')) (mul-pos (den_pos hi) (den_pos hi'))
      (product-cross (num lo) (den lo) (num x) (den x) (num lo') (den lo') (num y) (den y) i.least j.least)
      (product-cross (num x) (den x) (num hi) (den hi) (num y) (den y) (num hi') (den hi') i.most j.most)
      (subst (λ (z : Float). T (nonneg z)) c p))

  -- a divisor above zero
  pub div-within : 0 < num lo' → T (nonneg (div f hi lo')) → Within (div f lo hi') (div f x y) (div f hi lo')
  div-within L p =
      let Y : 0 < num y = first_pos (num y) (den lo') (lt_of_lt_of_le (mul-pos L (den_pos y)) j.least) in
      let H : 0 < num hi' = first_pos (num hi') (den y) (lt_of_lt_of_le (mul-pos Y (den_pos hi')) j.most) in
      let a = div_is f x y i.sign j.sign Y in
      let b = div_is f lo hi' E.0 E'.1 H in
      let c = div_is f hi lo' E.1 E'.0 L in
      moved b a c
      (round-within f (num x * den y) (num y * den x) (num lo * den hi') (num hi' * den lo) (num hi * den lo') (num lo' * den hi)
      (mul-pos Y (den_pos x)) (mul-pos H (den_pos lo)) (mul-pos L (den_pos hi))
      (quotient-cross (num lo) (den lo) (num x) (den x) (num y) (den y) (num hi') (den hi') i.least j.most)
      (quotient-cross (num x) (den x) (num hi) (den hi) (num lo') (den lo') (num y) (den y) i.most j.least)
      (subst (λ (z : Float). T (nonneg z)) c p))
