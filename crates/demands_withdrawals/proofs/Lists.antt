-- Lists without the entries of one document. Assumes nothing.
use mathlib.Core.Path.{◌≡◌, refl, sym, ap, ◌∙◌}
use mathlib.Core.Logic.{inl, inr}
use mathlib.Core.Bool.{Bool, true, false, not, cond, ◌&&◌}
use mathlib.Core.List.{List, [], ◌∷◌, ◌++◌, map, append_assoc}
use Prim.Native.Nat.{ℕ, zero, suc, ◌+◌, ◌≤◌}
use native.Mathlib.Omega.{arith}
use borrow.Author.Tests.{eqb-true, eqb-false, lt-ltb, le-ltb}
use lib.Dec.{eqb, ltb}
use lib.ListN.{length, take, length-append}
use lib.Seq.{take-take}
use Rattle.meaning.specs.Below.{list_below}
use Rattle.meaning.proofs.Tests.{decided, ltb-as-ltb}
use Rattle.demands.proofs.Lists.{All}
use Rattle.demands_withdrawals.specs.Withdrawal.{without_by}

module _ {ℓ} {A : Type ℓ} (doc_of : A → ℕ) (d : ℕ) where
  -- an entry goes, or stays
  pub without_gone : (x : A) (xs : List A) → eqb (doc_of x) d ≡ true → without_by doc_of d (x ∷ xs) ≡ without_by doc_of d xs
  unfolding without_by
  without_gone x xs e = ap (λ (gone : Bool). cond gone [] (x ∷ []) ++ without_by doc_of d xs) e

  pub without-kept : (x : A) (xs : List A) → eqb (doc_of x) d ≡ false → without_by doc_of d (x ∷ xs) ≡ x ∷ without_by doc_of d xs
  unfolding without_by
  without-kept x xs e = ap (λ (gone : Bool). cond gone [] (x ∷ []) ++ without_by doc_of d xs) e

  pub without-append : (xs ys : List A) → without_by doc_of d (xs ++ ys) ≡ without_by doc_of d xs ++ without_by doc_of d ys
  unfolding without_by
  without-append [] ys = refl
  without-append (x ∷ xs) ys =
      ap (λ (l : List A). cond (eqb (doc_of x) d) [] (x ∷ []) ++ l) (without-append xs ys)
      ∙ sym (append_assoc (cond (eqb (doc_of x) d) [] (x ∷ [])) (without_by doc_of d xs) (without_by doc_of d ys))

  -- ---- how many go
  pub without_fewer : (xs : List A) → length (without_by doc_of d xs) ≤ length xs
  unfolding without_by
  without_fewer [] = omega arith
  without_fewer (x ∷ xs) = elim (decided (eqb (doc_of x) d)) [
    | inl e ↦ omega (arith, ap length (without_gone x xs e), without_fewer xs)
    | inr e ↦ omega (arith, ap length (without-kept x xs e), without_fewer xs)
  ]

  -- none: no entry is d's
  abbrev pub Apart : List A → Type 0
  Apart = All (λ (x : A). eqb (doc_of x) d ≡ false)

  pub apart-same : (xs : List A) → Apart xs → without_by doc_of d xs ≡ xs
  unfolding without_by
  apart-same [] a = refl
  apart-same (x ∷ xs) a = without-kept x xs a.0 ∙ ap (λ (l : List A). x ∷ l) (apart-same xs a.1)

  apart-take : (k : ℕ) (xs : List A) → Apart xs → Apart (take k xs)
  apart-take zero xs a = tt
  apart-take (suc k) [] a = tt
  apart-take (suc k) (x ∷ xs) a = (a.0, apart-take k xs a.1)

  none-gone : (xs : List A) → length xs ≤ length (without_by doc_of d xs) → Apart xs
  none-gone [] h = tt
  none-gone (x ∷ xs) h = elim (decided (eqb (doc_of x) d)) [
    | inl e ↦ absurd (omega (arith, h, ap length (without_gone x xs e), without_fewer xs))
    | inr e ↦ (e, none-gone xs (omega (arith, h, ap length (without-kept x xs e))))
  ]

  -- where at most one goes, the first k of the others are among the first k + 1
  pub take-without : (k : ℕ) (xs : List A) → length xs ≤ length (without_by doc_of d xs) + 1 → take k (without_by doc_of d xs) ≡ take k (without_by doc_of d (take (suc k) xs))
  take-without k [] h = refl
  take-without k (x ∷ xs) h = elim (decided (eqb (doc_of x) d)) [
    | inl e ↦
        let a = none-gone xs (omega (arith, h, ap length (without_gone x xs e))) in
        ap (take k) (without_gone x xs e ∙ apart-same xs a)
        ∙ sym (ap (take k) (without_gone x (take k xs) e ∙ apart-same (take k xs) (apart-take k xs a)) ∙ take-take k k xs (omega arith))
    | inr e ↦ kept k e (λ j. take-without j xs (omega (arith, h, ap length (without-kept x xs e))))
  ]
    where
      kept : (k : ℕ) → eqb (doc_of x) d ≡ false → ((j : ℕ) → take j (without_by doc_of d xs) ≡ take j (without_by doc_of d (take (suc j) xs))) → take k (without_by doc_of d (x ∷ xs)) ≡ take k (without_by doc_of d (x ∷ take k xs))
      kept zero e r = refl
      kept (suc k) e r = ap (take (suc k)) (without-kept x xs e) ∙ ap (λ (l : List A). x ∷ l) (r k) ∙ sym (ap (take (suc k)) (without-kept x (take (suc k) xs) e))

-- ---- of a map, and of the numbers below a bound that have a property
pub without-map {ℓ ℓ'} : {A : Type ℓ} {B : Type ℓ'} (f : A → B) (doc_of : A → ℕ) (doc_in : B → ℕ) (d : ℕ) (xs : List A) → All (λ (x : A). doc_in (f x) ≡ doc_of x) xs → without_by doc_in d (map f xs) ≡ map f (without_by doc_of d xs)
unfolding without_by
without-map f doc_of doc_in d [] a = refl
without-map {A} {B} f doc_of doc_in d (x ∷ xs) a = elim (decided (eqb (doc_of x) d)) [
  | inl e ↦ without_gone doc_in d (f x) (map f xs) (ap (λ (n : ℕ). eqb n d) a.0 ∙ e) ∙ without-map f doc_of doc_in d xs a.1 ∙ ap (map f) (sym (without_gone doc_of d x xs e))
  | inr e ↦
      without-kept doc_in d (f x) (map f xs) (ap (λ (n : ℕ). eqb n d) a.0 ∙ e)
      ∙ ap (λ (l : List B). f x ∷ l) (without-map f doc_of doc_in d xs a.1) ∙ ap (map f) (sym (without-kept doc_of d x xs e))
]

listed_more : (p : ℕ → Bool) (n : ℕ) → length (list_below (suc n) p) ≡ length (list_below n p) + cond (p n) 1 0
unfolding list_below
listed_more p n = length-append (list_below n p) (cond (p n) (n ∷ []) []) ∙ ap (λ (m : ℕ). length (list_below n p) + m) (go (p n))
  where
    go : (b : Bool) → length (cond b (n ∷ []) []) ≡ cond b 1 0
    go true = refl
    go false = refl

module _ (p : ℕ → Bool) (d : ℕ) where
  abbrev pub others : ℕ → Bool
  others x = p x && not (eqb x d)

  pub without-listed : (n : ℕ) → without_by (λ x. x) d (list_below n p) ≡ list_below n others
  unfolding list_below without_by
  without-listed zero = refl
  without-listed (suc n) =
      without-append (λ x. x) d (list_below n p) (cond (p n) (n ∷ []) [])
      ∙ ap (λ (l : List ℕ). l ++ without_by (λ x. x) d (cond (p n) (n ∷ []) [])) (without-listed n)
      ∙ ap (λ (l : List ℕ). list_below n others ++ l) (last (p n) (eqb n d) refl)
    where
      last : (b c : Bool) → eqb n d ≡ c → without_by (λ x. x) d (cond b (n ∷ []) []) ≡ cond (b && not c) (n ∷ []) []
      last true true e = rw e
      last true false e = rw e
      last false c e = refl

  -- one fewer where d is listed
  pub length-others : (n : ℕ) → length (list_below n others) + cond (ltb d n && p d) 1 0 ≡ length (list_below n p)
  unfolding list_below
  length-others zero = rw (le-ltb d 0 (omega arith))
  length-others (suc n) = elim (decided (eqb n d)) [
    | inl e ↦
        let here : n ≡ d = eqb-true n d e in
        let before : length (list_below n others) + 0 ≡ length (list_below n p) = rw (le-ltb d n (omega arith)) at (length-others n) in
        rw (listed_more others n, listed_more p n, e, lt-ltb d (suc n) (omega arith), ← ap p here) (gone (length (list_below n others)) (length (list_below n p)) (p n) before)
    | inr e ↦
        let there : ltb d (suc n) ≡ ltb d n = ltb-as-ltb d (suc n) d n (λ l. let n = eqb-false n d e in omega arith) (λ l. omega arith) in
        rw (listed_more others n, listed_more p n, e, there) (kept (length (list_below n others)) (length (list_below n p)) (p n) (ltb d n && p d) (length-others n))
  ]
    where
      gone : (a b : ℕ) (t : Bool) → a + 0 ≡ b → a + cond (t && false) 1 0 + cond t 1 0 ≡ b + cond t 1 0
      gone a b true e = omega arith
      gone a b false e = omega arith

      kept : (a b : ℕ) (t u : Bool) → a + cond u 1 0 ≡ b → a + cond (t && true) 1 0 + cond u 1 0 ≡ b + cond t 1 0
      kept a b true u e = omega arith
      kept a b false u e = omega arith
