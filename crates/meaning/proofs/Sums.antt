-- Laws of sum_below: one term more, two sums that agree, terms that are 0, a term that grows, the first term taken out.
-- Assumes nothing.
use mathlib.Core.Path.{◌≡◌, refl, sym, ap, ap₂, ◌∙◌}
use mathlib.Core.Logic.{⊎_elim}
use Prim.Native.Nat.{ℕ, zero, suc, ◌+◌, ◌≤◌, ◌<◌}
use native.Mathlib.Numerals.{add-one}
use native.Mathlib.Nat.{le_refl, eq-or-lt_of_le, not-suc-le-zero}
use native.Mathlib.Omega.{arith}
use Rattle.meaning.specs.Below.{sum_below}
use Rattle.meaning.proofs.Below.{last-or-below}

pub sum-zero : (f : ℕ → ℕ) → sum_below 0 f ≡ 0
unfolding sum_below
sum-zero f = refl

pub sum_more : (n : ℕ) (f : ℕ → ℕ) → sum_below (n + 1) f ≡ sum_below n f + f n
unfolding sum_below
sum_more n f = rw add-one

-- terms behind the first m that are all 0
pub sum-rest : (m n : ℕ) (f : ℕ → ℕ) → m ≤ n → ((i : ℕ) → m ≤ i → i < n → f i ≡ 0) → sum_below m f ≡ sum_below n f
unfolding sum_below
sum-rest m zero f l h = let e : m ≡ 0 = omega arith in ap (λ (k : ℕ). sum_below k f) e
sum-rest m (suc n) f l h =
    ⊎_elim
    (λ e. ap (λ (k : ℕ). sum_below k f) e)
    (λ (g : m < suc n). omega (arith, sum-rest m n f (omega arith) (λ i a b. h i a (omega arith)), h n (omega arith) (omega arith)))
    (eq-or-lt_of_le l)

pub sum-none : (n : ℕ) (f : ℕ → ℕ) → ((i : ℕ) → i < n → f i ≡ 0) → sum_below n f ≡ 0
sum-none n f h = sym (sum-rest 0 n f (omega arith) (λ i a b. h i b)) ∙ sum-zero f

pub sum-prefix : (m n : ℕ) (f : ℕ → ℕ) → m ≤ n → sum_below m f ≤ sum_below n f
unfolding sum_below
sum-prefix m zero f l = let e : m ≡ 0 = omega arith in omega (arith, ap (λ (k : ℕ). sum_below k f) e)
sum-prefix m (suc n) f l =
    ⊎_elim (λ e. omega (arith, ap (λ (k : ℕ). sum_below k f) e)) (λ (g : m < suc n). omega (arith, sum-prefix m n f (omega arith))) (eq-or-lt_of_le l)

pub sum_same : (m : ℕ) (f g : ℕ → ℕ) → ((l : ℕ) → l < m → g l ≡ f l) → sum_below m g ≡ sum_below m f
unfolding sum_below
sum_same zero f g h = refl
sum_same (suc m) f g h = ap₂ (λ (a b : ℕ). a + b) (sum_same m f g (λ l k. h l (omega arith))) (h m (le_refl _))

-- the term of l is k more, the others are as they were
pub sum-grown : (m l k : ℕ) (f g : ℕ → ℕ) → l < m → g l ≡ f l + k → ((j : ℕ) → (j ≡ l → ⊥) → g j ≡ f j) → sum_below m g ≡ sum_below m f + k
unfolding sum_below
sum-grown zero l k f g b e h = absurd (omega arith)
sum-grown (suc m) l k f g b e h =
    ⊎_elim
    (λ q.
    let here : g m ≡ f m + k = ap g (sym q) ∙ e ∙ ap (λ (j : ℕ). f j + k) q in
    omega (arith, here, sum_same m f g (λ j c. h j (λ z. omega (arith, q, z)))))
    (λ q. omega (arith, h m (λ z. omega (arith, q, z)), sum-grown m l k f g q e h))
    (last-or-below l m b)

pub sum_first : (m : ℕ) (f : ℕ → ℕ) → sum_below (suc m) f ≡ f 0 + sum_below m (λ i. f (suc i))
unfolding sum_below
sum_first zero f = omega arith
sum_first (suc m) f = omega (arith, sum_first m f)

pub sum-plus : (n : ℕ) (f g : ℕ → ℕ) → sum_below n (λ i. f i + g i) ≡ sum_below n f + sum_below n g
unfolding sum_below
sum-plus zero f g = refl
sum-plus (suc n) f g = omega (arith, sum-plus n f g)

-- one of them is v and the others are 0
pub sum_one : (n : ℕ) (f : ℕ → ℕ) (x v : ℕ) → x < n → f x ≡ v → ((i : ℕ) → (i ≡ x → ⊥) → f i ≡ 0) → sum_below n f ≡ v
unfolding sum_below
sum_one zero f x v b e h = absurd (not-suc-le-zero b)
sum_one (suc n) f x v b e h =
    ⊎_elim
    (λ (g : x ≡ n). omega (arith, sum-none n f (λ i l. h i (λ q. absurd (omega (arith, q, g, l)))), ap f g, e))
    (λ (g : x < n). omega (arith, sum_one n f x v g e h, h n (λ q. absurd (omega (arith, q, g)))))
    (last-or-below x n b)
