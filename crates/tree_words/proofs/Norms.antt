-- Where a field's norm bytes begin, as the code finds it. Assumes nothing.
use mathlib.Core.Path.{◌≡◌, sym, ◌∙◌, ap, subst}
use Prim.Native.Nat.{ℕ, suc, ◌+◌, ◌*◌, ◌≤◌, ◌<◌}
use native.Mathlib.Omega.{arith}
use native.Mathlib.Nat.{mul-le-mul}
use native.Mathlib.Numerals.{add-one}
use borrow.Author.Tests.{eq-eqb, ne_eqb}
use Rattle.meaning.specs.Below.{count_below}
use Rattle.meaning.specs.Lent.{Index, field_count, field_norms, has_norms, leaf_count, leaf_field, leaf_first, leaf_number}
use Rattle.index.specs.Accepted.{Accepted}
use Rattle.index.specs.Records.{leaf_of}
use Rattle.index.specs.declared.leaves.Leaf.{Leaf}
use Rattle.index.proofs.Below.{count-le}
use Rattle.tree_weight.specs.Held.{norms_word}

pub few-fields : (ix : Index) (f : ℕ) → Accepted ix → f < field_count ix → f < 16
few-fields ix f a h = let few = a.few_fields in omega (arith, few, h)

module _ (ix : Index) (f : ℕ) where
  pub norms-none : (w : ℕ) → w ≡ field_norms ix f → (w ≡ 1 → ⊥) → 0 ≡ norms_word ix f
  unfolding norms_word
  norms-none w e h = rw (ne_eqb (field_norms ix f) 1 (λ g. h (e ∙ g)))

  pub norms-some : (w o : ℕ) → w ≡ field_norms ix f → w ≡ 1 → o ≡ count_below f (has_norms ix) * ix.max_doc → o + 1 ≡ norms_word ix f
  unfolding norms_word
  norms-some w o e h is = rw (eq-eqb (field_norms ix f) 1 (sym e ∙ h)) (add-one o ∙ ap suc is)

  pub norms-small : (o : ℕ) → Accepted ix → f < field_count ix → o ≡ count_below f (has_norms ix) * ix.max_doc → o ≤ 16777216
  norms-small o a h is =
      let docs = a.documents in
      let low = few-fields ix f a h in
      let count = count-le f (has_norms ix) in
      let few : count_below f (has_norms ix) ≤ 16 = omega (arith, count, low) in
      let product : count_below f (has_norms ix) * ix.max_doc ≤ 16 * 1048576 = mul-le-mul few docs in
      omega (arith, is, product)

-- ---- the leaf that the code reads
pub record LeafRead (ix : Index) (l : ℕ) (run : Leaf) : Type 0 where
  pub field-is : run.field ≡ leaf_field ix l
  pub first-is : run.first ≡ leaf_first ix l
  pub number-is : run.number ≡ leaf_number ix l

module _ (ix : Index) (l : ℕ) (run : Leaf) where
  pub leaf-read : run ≡ leaf_of ix l → LeafRead ix l run
  leaf-read is = record { field-is = ap Leaf.field is; first-is = ap Leaf.first is; number-is = ap Leaf.number is }

  pub field-known : Accepted ix → run ≡ leaf_of ix l → l < leaf_count ix → run.field < field_count ix
  field-known a is h = subst (λ (z : ℕ). z < field_count ix) (sym (ap Leaf.field is)) (a.leaf l h).field
