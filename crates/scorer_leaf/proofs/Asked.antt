-- A phrase whose terms were moved once, asked about one document. Assumes nothing.
use mathlib.Core.Path.{◌≡◌, refl}
use mathlib.Core.Bool.{Bool, true, false}
use mathlib.Core.List.{List}
use Prim.Native.Nat.{ℕ, ◌+◌, ◌<◌}
use native.Mathlib.Nat.{le_refl}
use native.Mathlib.Omega.{arith}
use lib.Dec.{ltb}
use Rattle.meaning.specs.Limits.{no_more_docs}
use Rattle.meaning.specs.Lent.{Index}
use Rattle.meaning.specs.Phrase.{PhraseTerm, phrase_frequency}
use Rattle.scorer_leaf.specs.Phrases.{TermsPassed, Leapt}
use Rattle.scorer_leaf.specs.Calls.{Approximates}
use Rattle.scorer_leaf.proofs.PhraseLaws.{lacking, phrase-hit, phrase-more}

module _ {ix : Index} {ts : List PhraseTerm} {target d : ℕ} {hit : Bool} {terms : List ℕ} (q : TermsPassed ix ts target d hit terms) where
  -- where not all of them stand at the target
  pub asked-beyond : (d ≡ target → d < no_more_docs → ⊥) → Approximates (λ x. ltb 0 (phrase_frequency ix ts x)) target target d
  asked-beyond ne = record { from = q.from; top = q.top; before = λ x a b. lacking ix ts x (q.before x a b); hit = λ e l. absurd (ne e l) }

  module _ (same : d ≡ target) where
    stood : hit ≡ true
    stood = go hit q.moved
      where
        go : (h : Bool) → (h ≡ false → target < d) → h ≡ true
        go true m = refl
        go false m = absurd (omega (arith, m refl, same))

    pub asked-leapt : Leapt ix ts target d terms
    asked-leapt = record { from = q.from; top = q.top; before = q.before; are = q.are; stand = q.stand stood }

    pub asked-none : d < no_more_docs → (n : ℕ) → n ≡ phrase_frequency ix ts d → n ≡ 0 → Approximates (λ x. ltb 0 (phrase_frequency ix ts x)) target target (d + 1)
    asked-none l n e z = record { from = omega arith; top = omega arith; before = phrase-more (le_refl _) (λ x a b. absurd (omega arith)) asked-leapt n e z; hit = λ s m. absurd (omega arith) }

    pub asked-stands : (n : ℕ) → n ≡ phrase_frequency ix ts d → (n ≡ 0 → ⊥) → Approximates (λ x. ltb 0 (phrase_frequency ix ts x)) target target d
    asked-stands n e ne =
        let f = phrase-hit (le_refl _) (λ x a b. absurd (omega arith)) asked-leapt n e ne in
        record { from = f.from; top = f.top; before = f.before; hit = λ s l. f.hit l }
