-- A loop over the set bits of a word: the lowest one, then the others. Assumes nothing.
use Rattle.std.proofs.Common.{◌≡◌, sym, ap, ap₂, ◌∙◌, Bool, true, false, not, ◌&&◌, cond, ⊎_elim, List, [], ◌∷◌, ◌++◌, ℕ, zero, suc, ◌-◌, ◌<◌, eqb, bit_and, arith, eq-eqb, ne_eqb}
use mathlib.Core.Bool.{and-true, and-false}
use Rattle.meaning.specs.Below.{list_below}
use Rattle.meaning.proofs.Below.{last-or-below, list-none}
use Rattle.bits.specs.Bit.{bit, LowestBit}
use Rattle.bits.proofs.Laws.{bit-zero, bit-others}
pub use Rattle.bits.specs.Bit.{set_bits}

-- the first of a list is taken off
pub list-first : (n t : ℕ) (p q : ℕ → Bool) → t < n → p t ≡ true → ((i : ℕ) → i < t → p i ≡ false) → ((i : ℕ) → q i ≡ p i && not (eqb i t)) → list_below n p ≡ t ∷ list_below n q
unfolding list_below
list-first zero t p q l s b o = absurd (omega arith)
list-first (suc n) t p q l s b o = ⊎_elim last (λ g. earlier g (list-first n t p q g s b o)) (last-or-below t n l)
  where
    last : t ≡ n → list_below (suc n) p ≡ t ∷ list_below (suc n) q
    last g =
        let pn : p n ≡ true = ap p (sym g) ∙ s in
        let qn : q n ≡ false = o n ∙ ap (λ (x : Bool). p n && not x) (eq-eqb n t (sym g)) ∙ and-false (p n) in
        let lp : list_below n p ≡ [] = list-none p n (λ i h. b i (omega arith)) in
        let lq : list_below n q ≡ [] = list-none q n (λ i h. o i ∙ ap (λ (x : Bool). x && not (eqb i t)) (b i (omega arith))) in
        rw (pn, qn, lp, lq) (ap (λ (x : ℕ). x ∷ []) (sym g))

    earlier : t < n → list_below n p ≡ t ∷ list_below n q → list_below (suc n) p ≡ t ∷ list_below (suc n) q
    earlier g ih =
        let e : q n ≡ p n = o n ∙ ap (λ (x : Bool). p n && not x) (ne_eqb n t (λ (z : n ≡ t). omega arith)) ∙ and-true (p n) in
        ap₂ (λ (x : List ℕ) (y : Bool). x ++ cond y (n ∷ []) []) ih (sym e)

pub first-set : (w t : ℕ) → LowestBit w t → set_bits w ≡ t ∷ set_bits (bit_and w (w - 1))
first-set w t l = list-first 64 t (λ p. bit p w) (λ p. bit p (bit_and w (w - 1))) l.within l.set l.below (λ q. bit-others q t w l.set l.below)

pub none-left : set_bits 0 ≡ []
none-left = list-none (λ p. bit p 0) 64 (λ p _. bit-zero p)
