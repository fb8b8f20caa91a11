-- A phrase's idf, as the code adds it up, and the bounds of what a leaf scores by. Assumes nothing.
use mathlib.Core.Path.{◌≡◌, refl, sym, ◌∙◌, ap, subst}
use mathlib.Core.Bool.{not}
use mathlib.Core.List.{List, [], ◌∷◌, ◌++◌, map}
use Prim.Native.Nat.{ℕ, zero, suc, ◌+◌, ◌^◌, ◌≤◌, ◌<◌}
use native.Mathlib.Omega.{arith}
use native.Mathlib.Numerals.{add-one}
use lib.Dec.{T}
use lib.ListN.{get_or}
use lib.Ieee.{Float, nan, is_nan, nan_bits, binary32, binary64, add, of_bits}
use Rattle.meaning.specs.Below.{list_to}
use Rattle.meaning.specs.Lent.{Index, leaf_count, leaf_idf}
use Rattle.meaning.specs.Ieee754.{zero_float, narrow, sum_from, narrowed_sum}
use Rattle.meaning.specs.Phrase.{PhraseTerm}
use Rattle.meaning.specs.Query.{record_children, record_value, phrase_terms_of}
use Rattle.meaning.specs.Score.{phrase_idf}
use Rattle.index.specs.Accepted.{Accepted}
use Rattle.ieee754.specs.Nonneg.{AtMost}
use Rattle.ieee754.proofs.Bounds.{atmost-number}
use Rattle.ieee754.proofs.Sums.{each_of}
use Rattle.meaning.proofs.Below.{length-list_to, get_or-list_to}
use Rattle.sim.proofs.ScoreBounds.{idf-atmost, phrase-idf-atmost}
use Rattle.ieee754.proofs.Patterns.{pattern_number}

-- ---- a leaf's idf
pub idf-number : (ix : Index) (l : ℕ) → Accepted ix → l < leaf_count ix → T (not (nan_bits binary32 (leaf_idf ix l)))
idf-number ix l a h = let small = (a.leaf l h).idf in pattern_number (leaf_idf ix l) (omega (arith, small))

-- ---- the sum
sum-last : (x : Float) (xs : List Float) (y : Float) → sum_from x (xs ++ (y ∷ [])) ≡ add binary64 (sum_from x xs) y
unfolding sum_from
sum-last x [] y = refl
sum-last x (z ∷ zs) y = sum-last (add binary64 x z) zs y

map-floats : (n : ℕ) (f : ℕ → PhraseTerm) (g : PhraseTerm → Float) → map g (list_to n f) ≡ list_to n (λ j. g (f j))
unfolding list_to
map-floats zero f g = refl
map-floats (suc n) f g = map_last (list_to n f) (f n) ∙ ap (λ (xs : List Float). xs ++ (g (f n) ∷ [])) (map-floats n f g)
  where
    map_last : (xs : List PhraseTerm) (x : PhraseTerm) → map g (xs ++ (x ∷ [])) ≡ map g xs ++ (g x ∷ [])
    map_last [] x = refl
    map_last (y ∷ ys) x = ap (λ (zs : List Float). g y ∷ zs) (map_last ys x)

module _ (ix : Index) (q : List ℕ) (at : ℕ) where
  abbrev pub idf_at : ℕ → Float
  idf_at j = of_bits binary32 (leaf_idf ix (record_value q (at + 1 + j) 0))

  pub idf-none : of_bits binary64 0 ≡ sum_from zero_float (list_to 0 idf_at)
  unfolding list_to sum_from of_bits
  idf-none = refl

  pub idf-more : (j l : ℕ) (sum x sum' : Float) → sum ≡ sum_from zero_float (list_to j idf_at) → l ≡ record_value q (at + 1 + j) 0 → x ≡ of_bits binary32 (leaf_idf ix l) → sum' ≡ add binary64 sum x → sum' ≡ sum_from zero_float (list_to (j + 1) idf_at)
  unfolding list_to
  idf-more j l sum x sum' e f g h =
      h
      ∙ ap (λ (z : Float). add binary64 z x) e
      ∙ ap (add binary64 (sum_from zero_float (list_to j idf_at))) (g ∙ ap (λ (z : ℕ). of_bits binary32 (leaf_idf ix z)) f)
      ∙ sym (sum-last zero_float (list_to j idf_at) (idf_at j))
      ∙ ap (λ (z : ℕ). sum_from zero_float (list_to z idf_at)) (sym (add-one j))

  pub idf-all : (j : ℕ) (sum r : Float) → j ≡ record_children q at → sum ≡ sum_from zero_float (list_to j idf_at) → r ≡ narrow sum → r ≡ phrase_idf ix (phrase_terms_of q at)
  unfolding phrase_idf narrowed_sum
  idf-all j sum r e f g =
      g
      ∙ ap narrow (f ∙ ap (λ (z : ℕ). sum_from zero_float (list_to z idf_at)) e)
      ∙ ap (λ (zs : List Float). narrow (sum_from zero_float zs)) (sym (map-floats (record_children q at) (λ j. record { leaf = record_value q (at + 1 + j) 0; offset = record_value q (at + 1 + j) 1 }) (λ t. of_bits binary32 (leaf_idf ix t.leaf))))

pub idf-not-nan : (ix : Index) (l : ℕ) (x : Float) → Accepted ix → l < leaf_count ix → x ≡ of_bits binary32 (leaf_idf ix l) → T (not (is_nan x))
idf-not-nan ix l x a h e = subst (λ (z : Float). T (not (is_nan z))) (sym e) (atmost-number (idf-atmost (leaf_idf ix l) (a.leaf l h).idf))

pub idf-small : (ix : Index) (l : ℕ) (x : Float) → Accepted ix → l < leaf_count ix → x ≡ of_bits binary32 (leaf_idf ix l) → AtMost (2 ^ 6) x
idf-small ix l x a h e = subst (λ (z : Float). AtMost (2 ^ 6) z) (sym e) (idf-atmost (leaf_idf ix l) (a.leaf l h).idf)

-- of a phrase whose leaves are there
pub phrase-idf-small : (ix : Index) (q : List ℕ) (at : ℕ) → Accepted ix → record_children q at ≤ 32 → ((j : ℕ) → j < record_children q at → record_value q (at + 1 + j) 0 < leaf_count ix) → AtMost (2 ^ 11) (phrase_idf ix (phrase_terms_of q at))
unfolding phrase_idf
phrase-idf-small ix q at a few there =
    let n = record_children q at in
    let idfs = list_to n (idf_at ix q at) in
    let long = length-list_to n (idf_at ix q at) in
    subst (λ (zs : List Float). AtMost (2 ^ 11) (narrowed_sum zs)) (sym (map-floats n (λ j. record { leaf = record_value q (at + 1 + j) 0; offset = record_value q (at + 1 + j) 1 }) (λ t. of_bits binary32 (leaf_idf ix t.leaf)))) (phrase-idf-atmost idfs (each_of (2 ^ 6) idfs (λ j h. one j (omega (arith, long, h)))) (omega (arith, long, few)))
  where
    one : (j : ℕ) → j < record_children q at → AtMost (2 ^ 6) (get_or (list_to (record_children q at) (idf_at ix q at)) j nan)
    one j h =
        subst (λ (z : Float). AtMost (2 ^ 6) z) (sym (get_or-list_to (record_children q at) (idf_at ix q at) nan j h)) (idf-atmost (leaf_idf ix (record_value q (at + 1 + j) 0)) (a.leaf (record_value q (at + 1 + j) 0) (there j h)).idf)
