-- What a chain over numbers or records finds and counts, as `any_below` and `count_below`. Assumes nothing.
use Rattle.std.proofs.Common.{◌≡◌, ℕ, zero, suc, ◌+◌, ◌*◌, ◌<◌, ◌≤◌, Bool, true, false, cond, List, [], length, get_or, take, drop, refl, sym, ap, ◌∙◌, ⊎_elim, arith, add-one, drop-drop, take_all, le_refl, zero-add, get_or-take, get_or-drop}
use Rattle.std.specs.List.{list_any, count_by, filter, range_with_len}
use Rattle.std.specs.Simd.{first_chunks}
use Rattle.std.proofs.lemmas.List.Folds.{list_any_more}
use Rattle.std.proofs.lemmas.List.Sums.{count_by_more_yes, count_by_more_no, length-filter}
use Rattle.std.proofs.lemmas.List.FromFn.{length-range_with_len, get_or-range_with_len}
use Rattle.meaning.specs.Below.{any_below, count_below}
use Rattle.meaning.proofs.Below.{any-more, any-zero, any-like, count-more, count-zero}
use Rattle.meaning.proofs.Tests.{decided}

pub count-like : (n : ℕ) (p q : ℕ → Bool) → ((i : ℕ) → i < n → p i ≡ q i) → count_below n p ≡ count_below n q
unfolding count_below
count-like zero p q h = refl
count-like (suc n) p q h = rw (count-like n p q (λ i l. h i (omega arith)), h n (le_refl _))

module _ {X : Type 0} (p : X → Bool) (xs : List X) (d : X) where
  -- of the elements before place i
  any-first : (i : ℕ) → i ≤ length xs → list_any p (take i xs) ≡ any_below i (λ k. p (get_or xs k d))
  any-first zero l = sym (any-zero (λ k. p (get_or xs k d)))
  any-first (suc i) l =
      rw (← add-one i) (list_any_more p xs i d (omega arith) ∙ any-more i (λ k. p (get_or xs k d)) _ _ (any-first i (omega arith)) refl)

  pub any-list : list_any p xs ≡ any_below (length xs) (λ k. p (get_or xs k d))
  any-list = ap (list_any p) (sym (take_all (length xs) xs (le_refl _))) ∙ any-first (length xs) (le_refl _)

  pub count-first : (i : ℕ) → i ≤ length xs → count_by p (take i xs) ≡ count_below i (λ k. p (get_or xs k d))
  count-first zero l = sym (count-zero (λ k. p (get_or xs k d)))
  count-first (suc i) l =
      let h = count-first i (omega arith) in
      let m = count-more i (λ k. p (get_or xs k d)) in
      rw (← add-one i)
      (⊎_elim
      (λ (e : p (get_or xs i d) ≡ true). omega (arith, count_by_more_yes p xs i d (omega arith) e, h, m, ap {B = ℕ} (λ (b : Bool). cond b 1 0) e))
      (λ (e : p (get_or xs i d) ≡ false). omega (arith, count_by_more_no p xs i d (omega arith) e, h, m, ap {B = ℕ} (λ (b : Bool). cond b 1 0) e))
      (decided (p (get_or xs i d))))

  pub count-list : count_by p xs ≡ count_below (length xs) (λ k. p (get_or xs k d))
  count-list = ap (count_by p) (sym (take_all (length xs) xs (le_refl _))) ∙ count-first (length xs) (le_refl _)

-- of the numbers below n
pub count-range : (p : ℕ → Bool) (n : ℕ) → length (filter p (range_with_len 0 n)) ≡ count_below n p
count-range p n =
    length-filter p _ ∙ count-list p (range_with_len 0 n) 0 ∙ ap (λ (m : ℕ). count_below m (λ k. p (get_or (range_with_len 0 n) k 0))) (length-range_with_len 0 n) ∙ count-like n _ p (λ i l. ap p (get_or-range_with_len 0 n i 0 l ∙ zero-add i))

-- the chunks of a size: each, and a word of one
chunk-at : {X : Type 0} (size n : ℕ) (xs : List X) (i : ℕ) → i < n → get_or (first_chunks size n xs) i [] ≡ take size (drop (size * i) xs)
chunk-at size zero xs i l = absurd (omega arith)
chunk-at size (suc n) xs zero l = let e : size * 0 ≡ 0 = omega arith in rw e
chunk-at size (suc n) xs (suc i) l =
    let e : size + size * i ≡ size * suc i = omega arith in
    chunk-at size n (drop size xs) i (omega arith) ∙ ap (take size) (drop-drop (size * i) size xs ∙ ap (λ (m : ℕ). drop m xs) e)

pub chunk_word : (size n : ℕ) (xs : List ℕ) (i k : ℕ) → i < n → k < size → get_or (get_or (first_chunks size n xs) i []) k 0 ≡ get_or xs (size * i + k) 0
chunk_word size n xs i k l g =
    ap (λ (c : List ℕ). get_or c k 0) (chunk-at size n xs i l) ∙ get_or-take _ _ k 0 g ∙ get_or-drop (size * i) xs k 0

pub length-chunks : {X : Type 0} (size n : ℕ) (xs : List X) → length (first_chunks size n xs) ≡ n
length-chunks size zero xs = refl
length-chunks size (suc n) xs = ap suc (length-chunks size n (drop size xs))

-- a test of records, which says of the i-th what q says of i
module _ (p : List ℕ → Bool) (q : ℕ → Bool) (size n : ℕ) (xs : List ℕ) (same : (i : ℕ) → i < n → p (get_or (first_chunks size n xs) i []) ≡ q i) where
  pub any-records : list_any p (first_chunks size n xs) ≡ any_below n q
  any-records =
      any-list p (first_chunks size n xs) [] ∙ ap (λ (m : ℕ). any_below m (λ k. p (get_or (first_chunks size n xs) k []))) (length-chunks size n xs) ∙ any-like n _ q same
