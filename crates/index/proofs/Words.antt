-- The words of a record that was read into a struct. Assumes nothing.
use mathlib.Core.Path.{◌≡◌, ap}
use Prim.Native.Nat.{ℕ}
use Rattle.meaning.specs.Lent.{Index, field_average, field_norms, field_positions, leaf_field, leaf_first, leaf_number, leaf_idf}
use Rattle.index.specs.declared.fields.Field.{Field}
use Rattle.index.specs.declared.leaves.Leaf.{Leaf}
use Rattle.index.specs.Records.{field_of, leaf_of}

module _ (ix : Index) (l : ℕ) (r : Leaf) (e : r ≡ leaf_of ix l) where
  pub leaf-field : r.field ≡ leaf_field ix l
  leaf-field = ap (λ (x : Leaf). x.field) e

  pub leaf_first_lem : r.first ≡ leaf_first ix l
  leaf_first_lem = ap (λ (x : Leaf). x.first) e

  pub leaf-number : r.number ≡ leaf_number ix l
  leaf-number = ap (λ (x : Leaf). x.number) e

  pub leaf-idf : r.idf ≡ leaf_idf ix l
  leaf-idf = ap (λ (x : Leaf). x.idf) e

module _ (ix : Index) (f : ℕ) (r : Field) (e : r ≡ field_of ix f) where
  pub field-average : r.average ≡ field_average ix f
  field-average = ap (λ (x : Field). x.average) e

  pub field-norms : r.norms ≡ field_norms ix f
  field-norms = ap (λ (x : Field). x.norms) e

  pub field-positions : r.positions ≡ field_positions ix f
  field-positions = ap (λ (x : Field). x.positions) e
