-- Laws of list_to: a list whose entries are known, one place changed, an array of zeros. Assumes nothing.
use mathlib.Core.Path.{◌≡◌, sym, ap, ◌∙◌}
use mathlib.Core.Logic.{◌⊎◌, inl, inr, ⊎_elim}
use mathlib.Core.List.{List}
use Prim.Native.Nat.{ℕ, ◌<◌}
use native.Mathlib.Omega.{arith}
use lib.Dec.{eqb}
use lib.ListN.{length, get_or, set, replicate, length-set, length-replicate, get_or-replicate}
use lib.Seq.{ext_get_or, get_or-set_same, get_or-set_other}
use borrow.Author.Tests.{eqb-true, eqb-false}
use Rattle.meaning.specs.Below.{list_to}
use Rattle.meaning.proofs.Below.{length-list_to, get_or-list_to}
use Rattle.meaning.proofs.Tests.{decided}

pub same_or_not : (a b : ℕ) → (a ≡ b) ⊎ (a ≡ b → ⊥)
same_or_not a b = ⊎_elim (λ e. inl (eqb-true a b e)) (λ e. inr (eqb-false a b e)) (decided (eqb a b))

-- ---- list_to
-- a list whose entries are known
pub listed : (l : List ℕ) (n : ℕ) (f : ℕ → ℕ) → length l ≡ n → ((i : ℕ) → i < n → get_or l i 0 ≡ f i) → l ≡ list_to n f
listed l n f e h = ext_get_or 0 l (list_to n f) (e ∙ sym (length-list_to n f)) (λ i g. h i (omega (arith, e)) ∙ sym (get_or-list_to n f 0 i (omega (arith, e))))

-- one place changed
pub list_to-set : (n : ℕ) (f g : ℕ → ℕ) (i y : ℕ) → i < n → y ≡ g i → ((j : ℕ) → j < n → (j ≡ i → ⊥) → f j ≡ g j) → set (list_to n f) i y ≡ list_to n g
list_to-set n f g i y l e h =
    listed (set (list_to n f) i y) n g (length-set (list_to n f) i y ∙ length-list_to n f)
    (λ j b.
    ⊎_elim
    (λ (q : j ≡ i). ap (λ (k : ℕ). get_or (set (list_to n f) i y) k 0) q ∙ get_or-set_same (list_to n f) i y 0 (omega (arith, length-list_to n f)) ∙ e ∙ ap g (sym q))
    (λ (q : j ≡ i → ⊥). get_or-set_other (list_to n f) i j y 0 q ∙ get_or-list_to n f 0 j b ∙ h j b q)
    (same_or_not j i))

pub zeros : (n : ℕ) (f : ℕ → ℕ) → ((i : ℕ) → i < n → f i ≡ 0) → replicate n 0 ≡ list_to n f
zeros n f h = listed (replicate n 0) n f (length-replicate n 0) (λ i l. get_or-replicate n i 0 0 l ∙ sym (h i l))
