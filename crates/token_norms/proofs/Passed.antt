-- A run with rising documents: the postings before a document come first, and `before` is their number. Assumes nothing.
use mathlib.Core.Path.{◌≡◌, sym, ap, subst, ◌∙◌}
use mathlib.Core.Logic.{⊎_elim}
use mathlib.Core.Bool.{Bool, true, false}
use mathlib.Core.List.{List}
use Prim.Native.Nat.{ℕ, zero, suc, ◌+◌, ◌≤◌, ◌<◌}
use native.Mathlib.Nat.{eq-or-lt_of_le}
use native.Mathlib.Numerals.{add-one}
use native.Mathlib.Omega.{arith}
use lib.Dec.{ltb}
use borrow.Author.Tests.{lt-ltb, le-ltb}
use Rattle.meaning.specs.Below.{count_below}
use Rattle.meaning.proofs.Below.{count-zero, count-one, count_same}
use Rattle.meaning.proofs.Tests.{cmp}
use Rattle.index.specs.Runs.{posting_document}
use Rattle.token_norms.specs.Lengths.{RunOk, before}

-- the first m of n have the property and the others do not
pub count-is : (m n : ℕ) (p : ℕ → Bool) → m ≤ n → ((k : ℕ) → k < m → p k ≡ true) → ((k : ℕ) → m ≤ k → k < n → p k ≡ false) → m ≡ count_below n p
count-is m zero p l a b = let e : m ≡ 0 = omega arith in e ∙ sym (count-zero p)
count-is m (suc n) p l a b =
    ⊎_elim
    (λ (e : m ≡ suc n). let g : m ≡ n + 1 = omega arith in g ∙ count-one n p n (count-is n n p (omega arith) (λ k h. a k (omega arith)) (λ k h i. absurd (omega arith))) (a n (omega arith)) ∙ ap (λ (k : ℕ). count_below k p) (add-one n))
    (λ (e : m < suc n). count_same n p m (count-is m n p (omega arith) a (λ k h i. b k h (omega arith))) (b n (omega arith) (omega arith)) ∙ ap (λ (k : ℕ). count_below k p) (add-one n))
    (eq-or-lt_of_le l)

-- m of the first n documents lie before d
pub record Split (f : ℕ → ℕ) (n d m : ℕ) : Type 0 where
  pub upto : m ≤ n
  pub passed : (k : ℕ) → k < m → f k < d
  pub ahead : (k : ℕ) → m ≤ k → k < n → d ≤ f k

-- rising numbers have such a place
split : (f : ℕ → ℕ) (n d : ℕ) → ((i j : ℕ) → i < j → j < n → f i < f j) → (m : ℕ) × Split f n d m
split f zero d h = (0, record { upto = omega arith; passed = λ k a. absurd (omega arith); ahead = λ k a b. absurd (omega arith) })
split f (suc n) d h =
    let s = split f n d (λ i j a b. h i j a (omega arith)) in
    ⊎_elim
    (λ b. (s.0, record { upto = omega (arith, s.1.upto); passed = s.1.passed; ahead = λ k a c. ⊎_elim (λ (e : k ≡ n). omega (arith, ap f e)) (λ (e : k < n). s.1.ahead k a e) (eq-or-lt_of_le {n = k} {m = n} (omega arith)) }))
    (λ b. (suc n, record { upto = omega arith; passed = λ k a. ⊎_elim (λ (e : k ≡ n). omega (arith, ap f e)) (λ (e : k < n). omega (arith, h k n e (omega arith))) (eq-or-lt_of_le {n = k} {m = n} (omega arith)); ahead = λ k a c. absurd (omega arith) }))
    (cmp d (f n + 1))

module _ (postings : List ℕ) (first number : ℕ) (ok : RunOk postings first number) where
  -- where such a place is, `before` is
  pub before-is : (d i : ℕ) → Split (posting_document postings first) number d i → i ≡ before postings first number d
  unfolding before
  before-is d i s = count-is i number (λ k. ltb (posting_document postings first k) d) s.upto (λ k a. lt-ltb _ _ (s.passed k a)) (λ k a b. le-ltb _ _ (s.ahead k a b))

  pub before-splits : (d : ℕ) → Split (posting_document postings first) number d (before postings first number d)
  before-splits d =
      let s = split (posting_document postings first) number d ok.rising in
      subst (Split (posting_document postings first) number d) (before-is d s.0 s.1) s.1
