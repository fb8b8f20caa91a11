-- Parts one after the other in one list: what is counted and found over the whole, and over each part. Assumes nothing.
use Rattle.std.proofs.Common.{◌≡◌, ℕ, zero, suc, ◌+◌, ◌<◌, ◌≤◌, Bool, true, false, cond, not, ◌||◌, eqb, ltb, sym, refl, ap, ◌∙◌, ⊎_elim, le_refl, add-zero, add-suc, arith, lt-ltb, eq-eqb, ne_eqb}
use Rattle.meaning.specs.Below.{any_below, count_below}
use Rattle.meaning.proofs.Below.{any-add, last-or-below}

-- a sum is above 0 where one of the two is
above-add : (a b : ℕ) → ltb 0 (a + b) ≡ (ltb 0 a || ltb 0 b)
above-add zero zero = refl
above-add zero (suc b) = let h : 0 < 0 + suc b = omega arith in let g : 0 < suc b = omega arith in rw (lt-ltb _ _ h, lt-ltb _ _ g)
above-add (suc a) b = let h : 0 < suc a + b = omega arith in let g : 0 < suc a = omega arith in rw (lt-ltb _ _ h, lt-ltb _ _ g)

above-cond : (b : Bool) → ltb 0 (cond b 1 0) ≡ b
above-cond true = refl
above-cond false = refl

-- some are counted where there is one
count-any : (n : ℕ) (p : ℕ → Bool) → ltb 0 (count_below n p) ≡ any_below n p
unfolding any_below count_below
count-any zero p = refl
count-any (suc n) p = above-add (count_below n p) (cond (p n) 1 0) ∙ ap (λ (b : Bool). b || ltb 0 (cond (p n) 1 0)) (count-any n p) ∙ ap (λ (b : Bool). any_below n p || b) (above-cond (p n))

add-shift : (a b c : ℕ) → a + b + c ≡ a + (b + c)
add-shift a b c = omega arith

pub count_add : (a b : ℕ) (p : ℕ → Bool) → count_below (a + b) p ≡ count_below a p + count_below b (λ i. p (a + i))
unfolding count_below
count_add a zero p = rw add-zero (sym (add-zero (count_below a p)))
count_add a (suc b) p = rw (add-suc, count_add a b p) (add-shift (count_below a p) (count_below b (λ i. p (a + i))) (cond (p (a + b)) 1 0))

-- the first of a part apart from the others
count-first : (n : ℕ) (p q : ℕ → Bool) → 0 < n → q 0 ≡ false → ((j : ℕ) → 0 < j → j < n → p j ≡ q j) → count_below n p ≡ cond (p 0) 1 0 + count_below n q
unfolding count_below
count-first zero p q l e h = absurd (omega arith)
count-first (suc zero) p q l e h = rw e (omega arith)
count-first (suc (suc n)) p q l e h =
    let k : count_below (suc n) p ≡ cond (p 0) 1 0 + count_below (suc n) q = count-first (suc n) p q (omega arith) e (λ j a b. h j a (omega arith)) in let g : p (suc n) ≡ q (suc n) = h (suc n) (omega arith) (le_refl _) in ap (λ (m : ℕ). m + cond (p (suc n)) 1 0) k ∙ ap (λ (b : Bool). cond (p 0) 1 0 + count_below (suc n) q + cond b 1 0) g ∙ add-shift (cond (p 0) 1 0) (count_below (suc n) q) (cond (q (suc n)) 1 0)

-- parts of lengths f, the i-th after those before it
module _ (f : ℕ → ℕ) where
  unfoldable pub before : ℕ → ℕ
  before zero = 0
  before (suc i) = before i + f i

  pub before-next : (i : ℕ) → before (suc i) ≡ before i + f i
  unfolding before
  before-next i = refl

  pub before-zero : before 0 ≡ 0
  unfolding before
  before-zero = refl

  pub before-le : (i n : ℕ) → i ≤ n → before i ≤ before n
  unfolding before
  before-le i zero l = let e : i ≡ 0 = omega arith in omega (arith, ap before e)
  before-le i (suc n) l = ⊎_elim (λ (e : i ≡ suc n). omega (arith, ap before e)) (λ (m : i < suc n). omega (arith, before-le i n (omega arith))) (last-or-below i (suc n) (omega arith))

  pub any-parts : (n : ℕ) (p : ℕ → Bool) → any_below (before n) p ≡ any_below n (λ i. any_below (f i) (λ j. p (before i + j)))
  unfolding before any_below
  any-parts zero p = refl
  any-parts (suc n) p = any-add (before n) (f n) p ∙ ap (λ (b : Bool). b || any_below (f n) (λ j. p (before n + j))) (any-parts n p)

  -- p over the whole, s at the first of each part, q at the others
  module _ (p s : ℕ → Bool) (q : ℕ → ℕ → Bool) (q0 : (i : ℕ) → q i 0 ≡ false) where
    unfoldable inside : ℕ → ℕ
    inside zero = 0
    inside (suc i) = inside i + count_below (f i) (q i)

    inside-any : (n : ℕ) → ltb 0 (inside n) ≡ any_below n (λ i. any_below (f i) (q i))
    unfolding inside any_below
    inside-any zero = refl
    inside-any (suc n) = above-add (inside n) (count_below (f n) (q n)) ∙ ap (λ (b : Bool). b || ltb 0 (count_below (f n) (q n))) (inside-any n) ∙ ap (λ (b : Bool). any_below n (λ i. any_below (f i) (q i)) || b) (count-any (f n) (q n))

    regroup : (a b c d : ℕ) → a + b + (c + d) ≡ a + c + (b + d)
    regroup a b c d = omega arith

    count-parts : (n : ℕ) → ((i : ℕ) → i < n → 0 < f i) → ((i : ℕ) → i < n → p (before i) ≡ s i) → ((i j : ℕ) → i < n → 0 < j → j < f i → p (before i + j) ≡ q i j) → count_below (before n) p ≡ count_below n s + inside n
    unfolding before inside count_below
    count-parts zero h e g = refl
    count-parts (suc n) h e g =
        count_add (before n) (f n) p ∙ ap (λ (m : ℕ). m + count_below (f n) (λ j. p (before n + j))) (count-parts n (λ i l. h i (omega arith)) (λ i l. e i (omega arith)) (λ i j l. g i j (omega arith))) ∙ ap (λ (m : ℕ). count_below n s + inside n + m) (count-first (f n) (λ j. p (before n + j)) (q n) (h n (le_refl _)) (q0 n) (λ j a b. g n j (le_refl _) a b) ∙ ap (λ (b : Bool). cond b 1 0 + count_below (f n) (q n)) (ap p (add-zero (before n)) ∙ e n (le_refl _))) ∙ regroup (count_below n s) (inside n) (cond (s n) 1 0) (count_below (f n) (q n))

    differ : (a b : ℕ) → not (eqb (a + b) a) ≡ ltb 0 b
    differ a zero = let h : a + 0 ≡ a = omega arith in rw (eq-eqb _ _ h)
    differ a (suc b) = let h : a + suc b ≡ a → ⊥ = λ e. omega arith in let g : 0 < suc b = omega arith in rw (ne_eqb _ _ h, lt-ltb _ _ g)

    -- more over the whole than at the firsts: some at another
    pub more-than-firsts : (n : ℕ) → ((i : ℕ) → i < n → 0 < f i) → ((i : ℕ) → i < n → p (before i) ≡ s i) → ((i j : ℕ) → i < n → 0 < j → j < f i → p (before i + j) ≡ q i j) → not (eqb (count_below (before n) p) (count_below n s)) ≡ any_below n (λ i. any_below (f i) (q i))
    more-than-firsts n h e g = ap (λ (m : ℕ). not (eqb m (count_below n s))) (count-parts n h e g) ∙ differ (count_below n s) (inside n) ∙ inside-any n
