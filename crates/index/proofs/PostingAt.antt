-- The posting of a document in a leaf's run: in a run that ascends there is at most one, and `posting_at` finds it. Assumes nothing.
use mathlib.Core.Path.{◌≡◌, refl, sym, ap, ◌∙◌}
use mathlib.Core.Logic.{⊎_elim}
use mathlib.Core.Bool.{Bool, true, false, cond}
use mathlib.Core.Option.{Option, none, some}
use Prim.Native.Nat.{ℕ, zero, suc, ◌<◌}
use native.Mathlib.Nat.{le_refl}
use native.Mathlib.Omega.{arith}
use lib.Dec.{eqb}
use borrow.Author.Tests.{eqb-true, eqb-false, eq-eqb, ne_eqb}
use Rattle.meaning.specs.Below.{last_below}
use Rattle.meaning.specs.Lent.{Index, leaf_number, leaf_document}
use Rattle.meaning.specs.Postings.{posting_at}
use Rattle.index.specs.Accepted.{RunAscends}
use Rattle.meaning.proofs.Below.{last-or-below}

same_some : (o : Option ℕ) (m n : ℕ) → o ≡ some m → o ≡ some n → m ≡ n
same_some o m n e g = cc

never-some : (o : Option ℕ) (n : ℕ) → o ≡ none → o ≡ some n → ⊥
never-some o n e g = let z : ◌≡◌ {A = ℕ} 0 1 = cc in omega arith

-- the last of those below n that have a property
module _ (p : ℕ → Bool) where
  last-zero : last_below 0 p ≡ none
  unfolding last_below
  last-zero = refl

  last_step : (n : ℕ) (b : Bool) → p n ≡ b → last_below (suc n) p ≡ cond b (some n) (last_below n p)
  unfolding last_below
  last_step n b e = rw e

  pub last_some : (n i : ℕ) → last_below n p ≡ some i → (i < n) × (p i ≡ true)
  last_some zero i e = absurd (never-some (last_below 0 p) i last-zero e)
  last_some (suc n) i e = go (p n) refl (last_some n i)
    where
      go : (b : Bool) → p n ≡ b → (last_below n p ≡ some i → (i < n) × (p i ≡ true)) → (i < suc n) × (p i ≡ true)
      go true g h = let m : n ≡ i = same_some (last_below (suc n) p) n i (last_step n true g) e in (omega arith, ap p (sym m) ∙ g)
      go false g h = let k = h (sym (last_step n false g) ∙ e) in (omega arith, k.1)

  pub last_none : (n i : ℕ) → last_below n p ≡ none → i < n → p i ≡ false
  last_none zero i e l = absurd (omega arith)
  last_none (suc n) i e l = go (p n) refl (last_none n i)
    where
      go : (b : Bool) → p n ≡ b → (last_below n p ≡ none → i < n → p i ≡ false) → p i ≡ false
      go true g h = absurd (never-some (last_below (suc n) p) n e (last_step n true g))
      go false g h = ⊎_elim (λ (m : i ≡ n). ap p m ∙ g) (λ (m : i < n). h (sym (last_step n false g) ∙ e) m) (last-or-below i n l)

  pub none_last : (n : ℕ) → ((i : ℕ) → i < n → p i ≡ false) → last_below n p ≡ none
  none_last zero h = last-zero
  none_last (suc n) h = last_step n false (h n (le_refl _)) ∙ none_last n (λ i l. h i (omega arith))

  pub last-at : (n i : ℕ) → i < n → p i ≡ true → ((j : ℕ) → i < j → j < n → p j ≡ false) → last_below n p ≡ some i
  last-at zero i l e h = absurd (omega arith)
  last-at (suc n) i l e h =
      ⊎_elim (λ (m : i ≡ n). last_step n true (ap p (sym m) ∙ e) ∙ ap some (sym m)) (λ (m : i < n). last_step n false (h n m (le_refl _)) ∙ last-at n i m e (λ j a b. h j a (omega arith))) (last-or-below i n l)

-- the run's posting for a document
module _ (ix : Index) (l d : ℕ) where
  -- what `posting_at` names is a posting of that document
  pub posting-is : (i : ℕ) → posting_at ix l d ≡ some i → (i < leaf_number ix l) × (leaf_document ix l i ≡ d)
  posting-is i e = let h = last_some (λ k. eqb (leaf_document ix l k) d) (leaf_number ix l) i e in (h.0, eqb-true _ _ h.1)

  -- where it names none, no posting has the document
  pub posting-absent : posting_at ix l d ≡ none → (i : ℕ) → i < leaf_number ix l → leaf_document ix l i ≡ d → ⊥
  posting-absent e i m = eqb-false _ _ (last_none (λ k. eqb (leaf_document ix l k) d) (leaf_number ix l) i e m)

  -- and the other way round
  pub posting-none : ((i : ℕ) → i < leaf_number ix l → leaf_document ix l i ≡ d → ⊥) → posting_at ix l d ≡ none
  posting-none h = none_last (λ k. eqb (leaf_document ix l k) d) (leaf_number ix l) (λ i m. ne_eqb _ _ (h i m))

  -- in a run that ascends the posting of the document is the one that it names
  pub posting-at : RunAscends ix l → (i : ℕ) → i < leaf_number ix l → leaf_document ix l i ≡ d → posting_at ix l d ≡ some i
  posting-at a i m e =
      last-at (λ k. eqb (leaf_document ix l k) d) (leaf_number ix l) i m (eq-eqb _ _ e) (λ j g n. ne_eqb _ _ (λ (s : leaf_document ix l j ≡ d). omega (arith, a i j g n)))

-- two postings of an ascending run with the same document are one
pub posting-once : (ix : Index) (l i j : ℕ) → RunAscends ix l → i < leaf_number ix l → j < leaf_number ix l → leaf_document ix l i ≡ leaf_document ix l j → i ≡ j
posting-once ix l i j a m n e =
    same_some (posting_at ix l (leaf_document ix l j)) i j (posting-at ix l (leaf_document ix l j) a i m e) (posting-at ix l (leaf_document ix l j) a j n refl)
