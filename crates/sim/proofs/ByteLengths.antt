-- The table of lengths holds what `length_of` gives for each byte. Assumes nothing.
use mathlib.Core.Path.{◌≡◌, refl, sym, ap, ◌∙◌, subst}
use mathlib.Core.Bool.{Bool, true, false, cond, ◌&&◌, false≢true}
use mathlib.Core.List.{List, [], ◌∷◌, ◌++◌}
use Prim.Native.Nat.{ℕ, zero, suc, ◌+◌, ◌-◌, ◌*◌, ◌/◌, ◌%◌, ◌≤◌, ◌<◌}
use native.Mathlib.Nat.{not-suc-le-zero, le_of_suc-le-suc}
use native.Mathlib.Omega.{arith}
use mathlib.Core.Logic.{inl, inr}
use Rattle.std.proofs.Math.Nat.{suc-ne-zero}
use Rattle.meaning.proofs.Below.{last-or-below}
use lib.Dec.{T, eqb, eqb→eq}
use lib.ListN.{length, get_or, take, drop, length-drop}
use lib.Seq.{length-take-le, get_or-take, get_or-drop}
use lib.Ieee.{Float, nan, binary32, fits, round, of_int, of_bits, to_bits, size}
use lib.Ieee.Bits.{of_bits-to_bits}
use lib.Ieee.Fits.{round-fits}
use Rattle.meaning.specs.SmallFloat.{long_to_int4, int4_to_long, max_int4, num_free_values, byte4_to_int}
use Rattle.meaning.specs.Bm25.{length_of}
use Rattle.sim.specs.declared.lengths.TheConstants.{LENGTHS}

-- ---- two f32 of one pattern
abbrev same : Float → Float → Bool
same x y = fits binary32 x && eqb (to_bits binary32 x) (to_bits binary32 y)

same-is : (x y : Float) → T (fits binary32 y) → same x y ≡ true → x ≡ y
same-is x y F e =
    let t = both (fits binary32 x) (eqb (to_bits binary32 x) (to_bits binary32 y)) e in
    sym (of_bits-to_bits binary32 x (subst T (sym t.0) tt)) ∙ ap (of_bits binary32) (eqb→eq (to_bits binary32 x) (to_bits binary32 y) (subst T (sym t.1) tt)) ∙ of_bits-to_bits binary32 y F
  where
    both : (a b : Bool) → (a && b) ≡ true → (a ≡ true) × (b ≡ true)
    both true b e = (refl, e)
    both false b e = absurd (false≢true e)

length-fits : (n : ℕ) → T (fits binary32 (length_of n))
unfolding length_of of_int
length-fits n = round-fits binary32 false (byte4_to_int n) 1

-- ---- the bytes from n on whose entries differ
abbrev wrong_from : ℕ → List Float → List ℕ
wrong_from n [] = []
wrong_from n (x ∷ xs) = cond (same x (length_of n)) [] (n ∷ []) ++ wrong_from (suc n) xs

split : (b : Bool) (n : ℕ) (ns : List ℕ) → cond b [] (n ∷ []) ++ ns ≡ [] → (b ≡ true) × (ns ≡ [])
split true n ns e = (refl, e)
split false n ns e = absurd (suc-ne-zero (length ns) (ap length e))

none-wrong : (xs : List Float) (n i : ℕ) → wrong_from n xs ≡ [] → i < length xs → get_or xs i nan ≡ length_of (n + i)
none-wrong [] n i e h = absurd (not-suc-le-zero h)
none-wrong (x ∷ xs) n zero e h =
    let first : n ≡ n + 0 = omega arith in
    same-is x (length_of n) (length-fits n) (split (same x (length_of n)) n (wrong_from (suc n) xs) e).0 ∙ ap length_of first
none-wrong (x ∷ xs) n (suc i) e h =
    let next : suc n + i ≡ n + suc i = omega arith in
    none-wrong xs (suc n) i (split (same x (length_of n)) n (wrong_from (suc n) xs) e).1 (le_of_suc-le-suc h) ∙ ap length_of next

-- ---- the table in rows of 32, each computed
abbrev row : ℕ → List Float
row k = take 32 (drop (32 * k) LENGTHS)

abbrev Right : ℕ → Type 0
Right zero = Unit
Right (suc k) = (wrong_from (32 * k) (row k) ≡ []) × Right k

computed : Right 8
unfolding length_of byte4_to_int int4_to_long long_to_int4 num_free_values max_int4 size of_int round of_bits to_bits fits
computed = (refl, (refl, (refl, (refl, (refl, (refl, (refl, (refl, tt))))))))

right-row : (m k : ℕ) → Right m → k < m → wrong_from (32 * k) (row k) ≡ []
right-row zero k r h = absurd (not-suc-le-zero h)
right-row (suc m) k r h = elim (last-or-below k m h) [
  | inl e ↦ subst (λ (z : ℕ). wrong_from (32 * z) (row z) ≡ []) (sym e) r.0
  | inr g ↦ right-row m k r.1 g
]

-- THE theorem: the entry of a byte is its length
pub entry-is : (n : ℕ) → n < 256 → get_or LENGTHS n nan ≡ length_of n
entry-is n h =
    let k = n / 32 in
    let i = n % 32 in
    let low : i < 32 = omega arith in
    let there : 32 * k + i ≡ n = omega arith in
    let long : length (row k) ≡ 32 = length-take-le 32 (drop (32 * k) LENGTHS) (subst (λ (z : ℕ). 32 ≤ z) (sym (length-drop (32 * k) LENGTHS)) (room n h)) in
    ap (λ (z : ℕ). get_or LENGTHS z nan) (sym there)
    ∙ sym (get_or-drop (32 * k) LENGTHS i nan)
    ∙ sym (get_or-take 32 (drop (32 * k) LENGTHS) i nan low)
    ∙ none-wrong (row k) (32 * k) i (right-row 8 k computed (omega (arith, h))) (subst (λ (z : ℕ). i < z) (sym long) low)
    ∙ ap length_of there
  where
    room : (n : ℕ) → n < 256 → 32 ≤ 256 - 32 * (n / 32)
    room n h = omega arith
