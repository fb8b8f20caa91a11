-- A test of the numbers below an end, taken from a number on. Assumes nothing.
use Rattle.std.proofs.Common.{◌≡◌, ℕ, ◌+◌, ◌-◌, ◌<◌, ◌≤◌, Bool, true, false, ◌||◌, get_or, sym, refl, ap, ◌∙◌, arith}
use Rattle.std.specs.List.{list_any, range_with_len}
use Rattle.std.proofs.lemmas.List.FromFn.{length-range_with_len, get_or-range_with_len}
use Rattle.meaning.specs.Below.{any_below}
use Rattle.meaning.specs.Lent.{Index, leaf_number}
use Rattle.meaning.specs.IndexRefusals.{wrong_posting}
use Rattle.meaning.proofs.Below.{any-add, any-like, any_none}
use Rattle.index.proofs.Chains.{any-list}

-- something wrong in a leaf's run
abbrev pub wrong_leaf_run : Index → ℕ → Bool
wrong_leaf_run ix k = any_below (leaf_number ix k) (wrong_posting ix k)

or-false : (b : Bool) → b ≡ (b || false)
or-false true = refl
or-false false = refl

module _ (p : ℕ → Bool) (l : ℕ) where
  -- the numbers from l on as a range
  pub any-range : (n : ℕ) → list_any p (range_with_len l n) ≡ any_below n (λ i. p (l + i))
  any-range n =
      any-list p (range_with_len l n) 0 ∙ ap (λ (m : ℕ). any_below m (λ k. p (get_or (range_with_len l n) k 0))) (length-range_with_len l n) ∙ any-like n _ _ (λ i m. ap p (get_or-range_with_len l n i 0 m))

  -- what is found from l on beside what was found below l
  pub from-joined : (k : ℕ) (b t : Bool) → l ≤ k → b ≡ any_below l p → t ≡ any_below (k - l) (λ i. p (l + i)) → (b || t) ≡ any_below k p
  from-joined k b t g e f =
      let z : l + (k - l) ≡ k = omega arith in
      rw (e, f) (sym (any-add l (k - l) p) ∙ ap (λ (n : ℕ). any_below n p) z)

  pub from-right : (k : ℕ) (b : Bool) → l ≤ k → b ≡ any_below l p → ((i : ℕ) → l ≤ i → i < k → p i ≡ false) → b ≡ any_below k p
  from-right k b g e h =
      let z : false ≡ any_below (k - l) (λ i. p (l + i)) = sym (any_none (k - l) (λ i. p (l + i)) (λ i m. h (l + i) (omega arith) (omega arith))) in
      or-false b ∙ from-joined k b false g e z
