-- The lowest number: each way out of `check_index`, and what a caller learns from it. Assumes nothing.
use mathlib.Core.Path.{◌≡◌, refl, sym, ◌∙◌}
use mathlib.Core.Bool.{Bool, true, false, cond}
use mathlib.Core.List.{List, [], ◌∷◌, ◌++◌}
use Prim.Native.Nat.{ℕ, ◌<◌}
use native.Mathlib.Omega.{arith}
use lib.Dec.{lit<}
use Rattle.meaning.specs.Lent.{Index}
use Rattle.meaning.specs.Refusals.{Condition, ◌when◌, lowest}
use Rattle.meaning.specs.IndexRefusals.{wrong1, wrong2, wrong3, wrong4, wrong5, wrong6}
use Rattle.index.specs.Refusal.{index_conditions, index_refusal}

module _ (ix : Index) where
  pub refused-1 : wrong1 ix ≡ true → ◌≡◌ {A = ℕ} 1 (index_refusal ix)
  unfolding lowest
  refused-1 e1 = rw (e1)

  pub refused-2 : wrong1 ix ≡ false → wrong2 ix ≡ true → ◌≡◌ {A = ℕ} 2 (index_refusal ix)
  unfolding lowest
  refused-2 e1 e2 = rw (e1, e2)

  pub refused-3 : wrong1 ix ≡ false → wrong2 ix ≡ false → wrong3 ix ≡ true → ◌≡◌ {A = ℕ} 3 (index_refusal ix)
  unfolding lowest
  refused-3 e1 e2 e3 = rw (e1, e2, e3)

  pub refused-4 : wrong1 ix ≡ false → wrong2 ix ≡ false → wrong3 ix ≡ false → wrong4 ix ≡ true → ◌≡◌ {A = ℕ} 4 (index_refusal ix)
  unfolding lowest
  refused-4 e1 e2 e3 e4 = rw (e1, e2, e3, e4)

  pub refused-5 : wrong1 ix ≡ false → wrong2 ix ≡ false → wrong3 ix ≡ false → wrong4 ix ≡ false → wrong5 ix ≡ true → ◌≡◌ {A = ℕ} 5 (index_refusal ix)
  unfolding lowest
  refused-5 e1 e2 e3 e4 e5 = rw (e1, e2, e3, e4, e5)

  pub refused-6 : wrong1 ix ≡ false → wrong2 ix ≡ false → wrong3 ix ≡ false → wrong4 ix ≡ false → wrong5 ix ≡ false → wrong6 ix ≡ true → ◌≡◌ {A = ℕ} 6 (index_refusal ix)
  unfolding lowest
  refused-6 e1 e2 e3 e4 e5 e6 = rw (e1, e2, e3, e4, e5, e6)

  pub not-refused : wrong1 ix ≡ false → wrong2 ix ≡ false → wrong3 ix ≡ false → wrong4 ix ≡ false → wrong5 ix ≡ false → wrong6 ix ≡ false → ◌≡◌ {A = ℕ} 0 (index_refusal ix)
  unfolding lowest
  not-refused e1 e2 e3 e4 e5 e6 = rw (e1, e2, e3, e4, e5, e6)

-- numbers above 0: then `lowest` is 0 only where no condition holds
abbrev pub Numbered : List Condition → Type 0
Numbered [] = Unit
Numbered (c ∷ cs) = (0 < c.number) × Numbered cs

lowest_step : (c : Condition) (cs : List Condition) (b : Bool) → c.holds ≡ b → lowest (c ∷ cs) ≡ cond b c.number (lowest cs)
unfolding lowest
lowest_step c cs true e = rw e
lowest_step c cs false e = rw e

lowest-empty : lowest [] ≡ 0
unfolding lowest
lowest-empty = refl

-- where a list gives 0, a longer one gives what the rest gives
pub lowest-none : (cs ds : List Condition) → Numbered cs → lowest cs ≡ 0 → lowest (cs ++ ds) ≡ lowest ds
lowest-none [] ds h e = refl
lowest-none (c ∷ cs) ds h e = go c.holds refl (lowest-none cs ds)
  where
    go : (b : Bool) → c.holds ≡ b → (Numbered cs → lowest cs ≡ 0 → lowest (cs ++ ds) ≡ lowest ds) → lowest (c ∷ (cs ++ ds)) ≡ lowest ds
    go true g r = absurd (omega (arith, h.0, lowest_step c cs true g, e))
    go false g r = lowest_step c (cs ++ ds) false g ∙ r h.1 (sym (lowest_step c cs false g) ∙ e)

-- and where it gives a number, that one
pub lowest-some : (cs ds : List Condition) → 0 < lowest cs → lowest (cs ++ ds) ≡ lowest cs
lowest-some [] ds h = absurd (omega (arith, lowest-empty))
lowest-some (c ∷ cs) ds h = go c.holds refl (lowest-some cs ds)
  where
    go : (b : Bool) → c.holds ≡ b → (0 < lowest cs → lowest (cs ++ ds) ≡ lowest cs) → lowest (c ∷ (cs ++ ds)) ≡ lowest (c ∷ cs)
    go true g r = lowest_step c (cs ++ ds) true g ∙ sym (lowest_step c cs true g)
    go false g r = lowest_step c (cs ++ ds) false g ∙ r (omega (arith, h, lowest_step c cs false g)) ∙ sym (lowest_step c cs false g)

-- the same of the loader's numbers, which every entry over an index and a query lists first
module _ (ix : Index) (ds : List Condition) where
  pub index-accepted : index_refusal ix ≡ 0 → lowest (index_conditions ix ++ ds) ≡ lowest ds
  index-accepted e = lowest-none (index_conditions ix) ds (lit< tt, (lit< tt, (lit< tt, (lit< tt, (lit< tt, (lit< tt, tt)))))) e

  pub index-refused : 0 < index_refusal ix → lowest (index_conditions ix ++ ds) ≡ index_refusal ix
  index-refused h = lowest-some (index_conditions ix) ds h

-- none of 1 to 6 holds where the number is 0
module _ (n : ℕ) (above : 0 < n) (cs : List Condition) where
  first-not : (b : Bool) → lowest ((n when b) ∷ cs) ≡ 0 → b ≡ false
  first-not true e = absurd (omega (arith, lowest_step (n when true) cs true refl))
  first-not false e = refl

  rest-none : (b : Bool) → lowest ((n when b) ∷ cs) ≡ 0 → lowest cs ≡ 0
  rest-none true e = absurd (omega (arith, lowest_step (n when true) cs true refl))
  rest-none false e = sym (lowest_step (n when false) cs false refl) ∙ e

module _ (ix : Index) (e : index_refusal ix ≡ 0) where
  abbrev from6 : List Condition
  from6 = (6 when wrong6 ix) ∷ []

  abbrev from5 : List Condition
  from5 = (5 when wrong5 ix) ∷ from6

  abbrev from4 : List Condition
  from4 = (4 when wrong4 ix) ∷ from5

  abbrev from3 : List Condition
  from3 = (3 when wrong3 ix) ∷ from4

  abbrev from2 : List Condition
  from2 = (2 when wrong2 ix) ∷ from3

  none2 : lowest from2 ≡ 0
  none2 = rest-none 1 (lit< tt) from2 (wrong1 ix) e

  none3 : lowest from3 ≡ 0
  none3 = rest-none 2 (lit< tt) from3 (wrong2 ix) none2

  none4 : lowest from4 ≡ 0
  none4 = rest-none 3 (lit< tt) from4 (wrong3 ix) none3

  none5 : lowest from5 ≡ 0
  none5 = rest-none 4 (lit< tt) from5 (wrong4 ix) none4

  none6 : lowest from6 ≡ 0
  none6 = rest-none 5 (lit< tt) from6 (wrong5 ix) none5

  pub not-1 : wrong1 ix ≡ false
  not-1 = first-not 1 (lit< tt) from2 (wrong1 ix) e

  pub not-2 : wrong2 ix ≡ false
  not-2 = first-not 2 (lit< tt) from3 (wrong2 ix) none2

  pub not-3 : wrong3 ix ≡ false
  not-3 = first-not 3 (lit< tt) from4 (wrong3 ix) none3

  pub not-4 : wrong4 ix ≡ false
  not-4 = first-not 4 (lit< tt) from5 (wrong4 ix) none4

  pub not-5 : wrong5 ix ≡ false
  not-5 = first-not 5 (lit< tt) from6 (wrong5 ix) none5

  pub not-6 : wrong6 ix ≡ false
  not-6 = first-not 6 (lit< tt) [] (wrong6 ix) none6
