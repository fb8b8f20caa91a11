-- Laws of specs/Below: what is found, counted, largest and listed among the numbers below a bound. Assumes nothing.
use mathlib.Core.Path.{◌≡◌, refl, sym, ap, ap₂, subst, ◌∙◌}
use mathlib.Core.Logic.{◌⊎◌, ⊎_elim}
use mathlib.Core.Bool.{Bool, true, false, cond, ◌&&◌, ◌||◌, and-or_distrib_right, or_assoc, or_comm, or-true, false≢true}
use mathlib.Core.List.{List, [], ◌∷◌, ◌++◌, append_assoc, append-nil}
use Prim.Native.Nat.{ℕ, zero, suc, ◌+◌, ◌*◌, ◌≤◌, ◌<◌, max}
use native.Mathlib.Nat.{le_refl, not-suc-le-zero, eq-or-lt_of_le, le_of_suc-le-suc, add-suc, add-zero}
use native.Mathlib.Numerals.{add-one}
use native.Mathlib.Omega.{arith}
use lib.Dec.{eqb, ltb}
use lib.ListN.{length, get_or, length-append, get_or-append}
use lib.Seq.{get_or_at}
use borrow.Author.Tests.{eq-eqb, ne_eqb, ltb-true, ltb-false}
use Rattle.meaning.specs.Below.{any_below, count_below, list_below, largest_below, list_to}
use Rattle.meaning.proofs.Tests.{decided, cmp, or_left, or_right}

-- the last of those below n + 1 is n
pub last-or-below : (i n : ℕ) → i < suc n → (i ≡ n) ⊎ (i < n)
last-or-below i n l = eq-or-lt_of_le (omega arith)

-- ---- any_below
pub any-zero : (p : ℕ → Bool) → any_below 0 p ≡ false
unfolding any_below
any-zero p = refl

-- a turn of a loop that gathers a flag
pub any-more : (n : ℕ) (p : ℕ → Bool) (b t : Bool) → b ≡ any_below n p → t ≡ p n → (b || t) ≡ any_below (n + 1) p
unfolding any_below
any-more n p b t e g = rw (add-one, e, g)

-- and its end
pub any-done : (k n : ℕ) (p : ℕ → Bool) (b : Bool) → b ≡ any_below k p → k ≤ n → n ≤ k → b ≡ any_below n p
any-done k n p b e l g = let s : k ≡ n = omega arith in e ∙ ap (λ (m : ℕ). any_below m p) s

pub any-like : (n : ℕ) (p q : ℕ → Bool) → ((i : ℕ) → i < n → p i ≡ q i) → any_below n p ≡ any_below n q
unfolding any_below
any-like zero p q h = refl
any-like (suc n) p q h = rw (any-like n p q (λ i l. h i (omega arith)), h n (le_refl _))

-- the middle two of four change places
swap : (a b c d : Bool) → ((a || b) || (c || d)) ≡ ((a || c) || (b || d))
swap true b c d = refl
swap false true true d = refl
swap false true false d = refl
swap false false true d = refl
swap false false false d = refl

pub any-or : (n : ℕ) (p q : ℕ → Bool) → any_below n (λ i. p i || q i) ≡ (any_below n p || any_below n q)
unfolding any_below
any-or zero p q = refl
any-or (suc n) p q = rw (any-or n p q) (swap (any_below n p) (any_below n q) (p n) (q n))

pub any-and : (n : ℕ) (p : ℕ → Bool) (b : Bool) → (any_below n p && b) ≡ any_below n (λ i. p i && b)
unfolding any_below
any-and zero p b = refl
any-and (suc n) p b = and-or_distrib_right (any_below n p) (p n) b ∙ ap (λ (c : Bool). c || (p n && b)) (any-and n p b)

-- where none is so, each is not
pub none_below : (n : ℕ) (p : ℕ → Bool) → any_below n p ≡ false → (i : ℕ) → i < n → p i ≡ false
unfolding any_below
none_below zero p e i l = absurd (omega arith)
none_below (suc n) p e i l =
    ⊎_elim (λ g. ap p g ∙ or_right (any_below n p) (p n) e) (λ g. none_below n p (or_left (any_below n p) (p n) e) i g) (last-or-below i n l)

-- and the other way round
pub any_none : (n : ℕ) (p : ℕ → Bool) → ((i : ℕ) → i < n → p i ≡ false) → any_below n p ≡ false
unfolding any_below
any_none zero p h = refl
any_none (suc n) p h = rw (any_none n p (λ i g. h i (omega arith)), h n (le_refl _))

-- where one is so, some is
pub any_some : (n : ℕ) (p : ℕ → Bool) (i : ℕ) → i < n → p i ≡ true → any_below n p ≡ true
unfolding any_below
any_some zero p i l e = absurd (omega arith)
any_some (suc n) p i l e =
    ⊎_elim (λ g. ap (λ (b : Bool). any_below n p || b) (ap p (sym g) ∙ e) ∙ or-true (any_below n p)) (λ g. ap (λ (b : Bool). b || p n) (any_some n p i g e)) (last-or-below i n l)

-- those below a + b are those below a, and b more
pub any-add : (a b : ℕ) (p : ℕ → Bool) → any_below (a + b) p ≡ (any_below a p || any_below b (λ i. p (a + i)))
unfolding any_below
any-add a zero p = rw add-zero (or_comm false (any_below a p))
any-add a (suc b) p = rw (add-suc, any-add a b p) (or_assoc (any_below a p) (any_below b (λ i. p (a + i))) (p (a + b)))

zero-times : (n : ℕ) → 0 * n ≡ 0
zero-times n = omega arith

suc-times : (c n : ℕ) → suc c * n ≡ c * n + n
suc-times c n = omega arith

-- c rows of n each, one after the other
pub any-rows : (c n : ℕ) (p : ℕ → Bool) → any_below (c * n) p ≡ any_below c (λ i. any_below n (λ d. p (i * n + d)))
unfolding any_below
any-rows zero n p = rw (zero-times n)
any-rows (suc c) n p = rw (suc-times c n, any-add (c * n) n p, any-rows c n p)

-- ---- count_below
pub count-zero : (p : ℕ → Bool) → count_below 0 p ≡ 0
unfolding count_below
count-zero p = refl

pub count-more : (n : ℕ) (p : ℕ → Bool) → count_below (n + 1) p ≡ count_below n p + cond (p n) 1 0
unfolding count_below
count-more n p = rw add-one

-- the two ways of a turn of a loop that counts
pub count-one : (n : ℕ) (p : ℕ → Bool) (k : ℕ) → k ≡ count_below n p → p n ≡ true → k + 1 ≡ count_below (n + 1) p
count-one n p k e g = rw (count-more n p, g, e)

pub count_same : (n : ℕ) (p : ℕ → Bool) (k : ℕ) → k ≡ count_below n p → p n ≡ false → k ≡ count_below (n + 1) p
count_same n p k e g = rw (count-more n p, g, e, add-zero)

pub cond-le : (b : Bool) → cond b 1 0 ≤ 1
cond-le true = omega arith
cond-le false = omega arith

pub count-le : (n : ℕ) (p : ℕ → Bool) → count_below n p ≤ n
unfolding count_below
count-le zero p = omega arith
count-le (suc n) p = omega (arith, count-le n p, cond-le (p n))

-- one that is so, above m, is not counted below m
pub count-lt : (m n : ℕ) (p : ℕ → Bool) → m < n → p m ≡ true → count_below m p + 1 ≤ count_below n p
unfolding count_below
count-lt m zero p l e = absurd (omega arith)
count-lt m (suc n) p l e =
    ⊎_elim (λ g. let z : ◌≡◌ {A = ℕ} (cond (p n) 1 0) 1 = ap (λ (b : Bool). cond b 1 0) (ap p (sym g) ∙ e) in omega (arith, ap (λ (k : ℕ). count_below k p) g, z)) (λ g. omega (arith, count-lt m n p g e)) (last-or-below m n l)

-- ---- largest_below
pub largest-zero : (f : ℕ → ℕ) → largest_below 0 f ≡ 0
unfolding largest_below
largest-zero f = refl

pub largest-more : (n : ℕ) (f : ℕ → ℕ) → largest_below (n + 1) f ≡ max (largest_below n f) (f n)
unfolding largest_below
largest-more n f = rw (add-one n)

-- each is at most the largest
pub largest-at : (n : ℕ) (f : ℕ → ℕ) (i : ℕ) → i < n → f i ≤ largest_below n f
unfolding largest_below
largest-at zero f i h = absurd (omega arith)
largest-at (suc n) f i h = ⊎_elim (λ g. omega (arith, ap f g)) (λ g. omega (arith, largest-at n f i g)) (last-or-below i n h)

-- ---- list_to
module _ {ℓ} {A : Type ℓ} where
  pub list_to-zero : (f : ℕ → A) → list_to 0 f ≡ []
  unfolding list_to
  list_to-zero f = refl

  pub list_to-next : (f : ℕ → A) (n : ℕ) → list_to (n + 1) f ≡ list_to n f ++ (f n ∷ [])
  unfolding list_to
  list_to-next f n = ap (λ (k : ℕ). list_to k f) (add-one n)

  pub length-list_to : (n : ℕ) (f : ℕ → A) → length (list_to n f) ≡ n
  unfolding list_to
  length-list_to zero f = refl
  length-list_to (suc n) f = length-append (list_to n f) (f n ∷ []) ∙ ap (λ (k : ℕ). k + 1) (length-list_to n f) ∙ add-one n

  pub get_or-list_to : (n : ℕ) (f : ℕ → A) (d : A) (i : ℕ) → i < n → get_or (list_to n f) i d ≡ f i
  unfolding list_to
  get_or-list_to zero f d i h = absurd (not-suc-le-zero h)
  get_or-list_to (suc n) f d i h =
      ⊎_elim
      (λ g. get_or_at (list_to n f) (f n) [] d i (length-list_to n f ∙ sym g) ∙ ap f (sym g))
      (λ g. get_or-append (list_to n f) (f n ∷ []) d i (omega (arith, length-list_to n f)) ∙ get_or-list_to n f d i g)
      (last-or-below i n h)

  -- the first a and b more
  pub list_to-add : (a b : ℕ) (f : ℕ → A) → list_to (a + b) f ≡ list_to a f ++ list_to b (λ j. f (a + j))
  unfolding list_to
  list_to-add a zero f = rw add-zero (sym (append-nil (list_to a f)))
  list_to-add a (suc b) f = rw (add-suc, list_to-add a b f) (append_assoc (list_to a f) (list_to b (λ j. f (a + j))) (f (a + b) ∷ []))

  -- two that agree below n
  pub list_to-same : (n : ℕ) (f g : ℕ → A) → ((i : ℕ) → i < n → f i ≡ g i) → list_to n f ≡ list_to n g
  unfolding list_to
  list_to-same zero f g h = refl
  list_to-same (suc n) f g h = ap₂ (λ (xs : List A) (x : A). xs ++ (x ∷ [])) (list_to-same n f g (λ i l. h i (omega arith))) (h n (le_refl _))

-- ---- list_below
module _ (p : ℕ → Bool) where
  -- one number more
  pub list-taken : (d : ℕ) → p d ≡ true → list_below (suc d) p ≡ list_below d p ++ (d ∷ [])
  unfolding list_below
  list-taken d e = rw e

  pub list_left : (d : ℕ) → p d ≡ false → list_below (suc d) p ≡ list_below d p
  unfolding list_below
  list_left d e = rw e (append-nil (list_below d p))

  pub list_length : (n : ℕ) → length (list_below n p) ≤ n
  unfolding list_below
  list_length zero = omega arith
  list_length (suc n) = let ih = list_length n in
      ⊎_elim
      (λ e. omega (arith, ap length (list-taken n e), length-append (list_below n p) (n ∷ [])))
      (λ e. omega (arith, ap length (list_left n e)))
      (decided (p n))

  -- what is listed
  -- an entry is below the bound and has the property
  pub listed_at : (n i : ℕ) → i < length (list_below n p) → (get_or (list_below n p) i 0 < n) × (p (get_or (list_below n p) i 0) ≡ true)
  listed_at zero i h = absurd (omega (arith, h, list_length 0))
  listed_at (suc n) i h =
      let inner : i < length (list_below n p) → (get_or (list_below n p) i 0 < suc n) × (p (get_or (list_below n p) i 0) ≡ true) = λ g. (omega (arith, (listed_at n i g).0), (listed_at n i g).1) in
      ⊎_elim (taken inner) (left inner) (decided (p n))
    where
      Here : List ℕ → Type 0
      Here l = (get_or l i 0 < suc n) × (p (get_or l i 0) ≡ true)

      taken : (i < length (list_below n p) → Here (list_below n p)) → p n ≡ true → Here (list_below (suc n) p)
      taken inner e =
          let l = list_below n p in
          subst Here (sym (list-taken n e))
          (⊎_elim
          (λ g. subst (λ (x : ℕ). (x < suc n) × (p x ≡ true)) (sym (get_or-append l (n ∷ []) 0 i g)) (inner g))
          (λ g. subst (λ (x : ℕ). (x < suc n) × (p x ≡ true)) (sym (get_or_at l n [] 0 i (omega (arith, h, g, ap length (list-taken n e), length-append l (n ∷ []))))) (omega arith, e))
          (cmp i (length l)))

      left : (i < length (list_below n p) → Here (list_below n p)) → p n ≡ false → Here (list_below (suc n) p)
      left inner e = subst Here (sym (list_left n e)) (inner (omega (arith, h, ap length (list_left n e))))

  -- they ascend
  pub listed-ascends : (n i j : ℕ) → i < j → j < length (list_below n p) → get_or (list_below n p) i 0 < get_or (list_below n p) j 0
  listed-ascends zero i j g h = absurd (omega (arith, h, list_length 0))
  listed-ascends (suc n) i j g h =
      ⊎_elim (taken (λ k. listed-ascends n i j g k)) (left (λ k. listed-ascends n i j g k)) (decided (p n))
    where
      Here : List ℕ → Type 0
      Here l = get_or l i 0 < get_or l j 0

      taken : (j < length (list_below n p) → Here (list_below n p)) → p n ≡ true → Here (list_below (suc n) p)
      taken inner e =
          let l = list_below n p in
          let size = ap length (list-taken n e) ∙ length-append l (n ∷ []) in
          let first = get_or-append l (n ∷ []) 0 i (omega (arith, size)) in
          subst Here (sym (list-taken n e))
          (⊎_elim
          (λ k. let second = get_or-append l (n ∷ []) 0 j k in omega (arith, first, second, inner k))
          (λ k. let last = get_or_at l n [] 0 j (omega (arith, size)) in omega (arith, first, last, (listed_at n i (omega (arith, size))).0))
          (cmp j (length l)))

      left : (j < length (list_below n p) → Here (list_below n p)) → p n ≡ false → Here (list_below (suc n) p)
      left inner e = subst Here (sym (list_left n e)) (inner (omega (arith, h, ap length (list_left n e))))

  -- and every number below the bound with the property is listed
  pub listed_has : (n d : ℕ) → d < n → p d ≡ true → (i : ℕ) × ((i < length (list_below n p)) × (get_or (list_below n p) i 0 ≡ d))
  listed_has zero d h q = absurd (not-suc-le-zero h)
  listed_has (suc n) d h q = ⊎_elim here (λ g. before (listed_has n d g q)) (eq-or-lt_of_le (le_of_suc-le-suc h))
    where
      Has : List ℕ → Type 0
      Has l = (i : ℕ) × ((i < length l) × (get_or l i 0 ≡ d))

      here : d ≡ n → Has (list_below (suc n) p)
      here e =
          let l = list_below n p in
          subst Has (sym (list-taken n (subst (λ (x : ℕ). p x ≡ true) e q)))
          (length l, (omega (arith, length-append l (n ∷ [])), get_or_at l n [] 0 (length l) refl ∙ sym e))

      before : Has (list_below n p) → Has (list_below (suc n) p)
      before ih =
          let l = list_below n p in
          ⊎_elim
          (λ e. subst Has (sym (list-taken n e)) (ih.0, (omega (arith, length-append l (n ∷ []), ih.1.0), get_or-append l (n ∷ []) 0 ih.0 ih.1.0 ∙ ih.1.1)))
          (λ e. subst Has (sym (list_left n e)) ih)
          (decided (p n))

-- two properties that agree below the bound
pub list_same : (p q : ℕ → Bool) (n : ℕ) → ((d : ℕ) → d < n → p d ≡ q d) → list_below n p ≡ list_below n q
unfolding list_below
list_same p q zero h = refl
list_same p q (suc n) h = rw (list_same p q n (λ d g. h d (omega arith)), h n (omega arith))

-- a property that no number below the bound has lists none
pub list-none : (p : ℕ → Bool) (n : ℕ) → ((d : ℕ) → d < n → p d ≡ false) → list_below n p ≡ []
unfolding list_below
list-none p zero h = refl
list-none p (suc n) h = list_left p n (h n (omega arith)) ∙ list-none p n (λ d g. h d (omega arith))

-- a number stands in the list exactly where it is below the bound and has the property
pub listed-exactly : (p : ℕ → Bool) (n d : ℕ) → any_below (length (list_below n p)) (λ i. eqb (get_or (list_below n p) i 0) d) ≡ (ltb d n && p d)
listed-exactly p n d = go (ltb d n) (p d) refl refl
  where
    At : ℕ → Bool
    At i = eqb (get_or (list_below n p) i 0) d

    absent : ((d < n) × (p d ≡ true) → ⊥) → any_below (length (list_below n p)) At ≡ false
    absent never =
        any_none (length (list_below n p)) At
        (λ i h. ne_eqb (get_or (list_below n p) i 0) d (λ e. never (subst (λ (x : ℕ). (x < n) × (p x ≡ true)) e (listed_at p n i h))))

    go : (b t : Bool) → ltb d n ≡ b → p d ≡ t → any_below (length (list_below n p)) At ≡ (b && t)
    go true true e q =
        let i = listed_has p n d (ltb-true d n e) q in
        any_some (length (list_below n p)) At i.0 i.1.0 (eq-eqb (get_or (list_below n p) i.0 0) d i.1.1)
    go true false e q = absent (λ h. false≢true (sym q ∙ h.1))
    go false t e q = absent (λ h. let g = ltb-false d n e in omega (arith, h.0))
